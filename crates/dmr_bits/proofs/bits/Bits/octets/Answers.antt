use Rattle.std.proofs.Common.{◌≡◌, ℕ, ◌<◌, List, take, length, sym, ap, ◌∙◌, arith}
use Rattle.std.proofs.lemmas.List.{length-take-le}
use Rattle.std.proofs.lemmas.List.Elements.{All-take}
use Rattle.dmr_bits.specs.Bits.{bits_of_octets, octets_of}
use Rattle.dmr_bits.proofs.Octets.{octets_of-bits_of_octets}
use Rattle.dmr_bits.proofs.Packed.{length-unpacked, spelled_unpacked}
use Rattle.dmr_bits.proofs.bits.Bits.octets.Goals as goal

pub returns-clause-length : goal.returns-clause-length
returns-clause-length g c = ap length (sym c.self.view_is) ∙ length-unpacked g.row.N c.self.inside.words c.self.invariant

pub returns-clause-spelled : goal.returns-clause-spelled
returns-clause-spelled g c =
    ap bits_of_octets c.copy_from_slice.ensures.after
    ∙ spelled_unpacked g.row.N g.row.M c.self.inside.words c.octets_of-all.result c.requires.whole c.self.invariant
    c.octets_of-all.ensures.long c.octets_of-all.ensures.value
    ∙ c.self.view_is

pub returns-clause-value : goal.returns-clause-value
returns-clause-value g c =
    let front : List ℕ = take g.row.M c.octets_of-all.result in
    let long : length front ≡ g.row.M =
    length-take-le g.row.M c.octets_of-all.result (omega (arith, c.self.invariant.fits, c.requires.whole)) in
    let spelled : bits_of_octets front ≡ c.args.self.now =
    spelled_unpacked g.row.N g.row.M c.self.inside.words c.octets_of-all.result c.requires.whole c.self.invariant
    c.octets_of-all.ensures.long c.octets_of-all.ensures.value ∙ c.self.view_is in
    c.copy_from_slice.ensures.after
    ∙ sym (octets_of-bits_of_octets front
    (All-take (λ (octet : ℕ). octet < 256) g.row.M c.octets_of-all.result c.octets_of-all.ensures.small))
    ∙ ap (λ n. octets_of n (bits_of_octets front)) long
    ∙ ap (octets_of g.row.M) spelled
