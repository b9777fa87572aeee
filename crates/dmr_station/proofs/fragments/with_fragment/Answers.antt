use Rattle.std.proofs.Common.{◌≡◌, ◌∙◌, List, Bool, ap, subst, sym}
use Rattle.dmr_bits.specs.Bits.{part, put_at, bits_of_octets}
use Rattle.dmr_burst.specs.Cach.{IsCach}
use Rattle.dmr_station.proofs.Refilling.{of_new_fragment, with_fragment}
use Rattle.dmr_station.proofs.fragments.with_fragment.Goals as goal

pub returns-clause-cach : goal.returns-clause-cach
returns-clause-cach c = λ at tc lcss old is.
    let f : List Bool = c.args.fragment.now in
    let first = c.put_part.ensures.value ∙ ap (λ x. put_at x 1 (part f 0 3)) c.from_octets-bits.ensures.value in
    let second = c.put_part-2.ensures.value ∙ ap (λ x. put_at x 5 (part f 3 6)) first in
    let third = c.put_part-3.ensures.value ∙ ap (λ x. put_at x 9 (part f 6 9)) second in
    let fourth = c.put_part-4.ensures.value ∙ ap (λ x. put_at x 13 (part f 9 10)) third in
    let fifth = c.put_part-5.ensures.value ∙ ap (λ x. put_at x 15 (part f 10 13)) fourth in
    let sixth = c.put_part-6.ensures.value ∙ ap (λ x. put_at x 19 (part f 13 16)) fifth in
    let last = c.put_part-7.ensures.value ∙ ap (λ x. put_at x 23 (part f 16 17)) sixth in
    let made : bits_of_octets c.octets.result ≡ with_fragment (bits_of_octets c.args.cach.now) f =
    c.octets.ensures.spelled ∙ last in
    subst (IsCach at tc lcss f) (sym made)
    (of_new_fragment at tc lcss old (bits_of_octets c.args.cach.now) f c.put_part.ensures.other_length is)
