use Rattle.std.proofs.Common.{◌+◌, sym, ap, ◌∙◌}
use Rattle.dmr_bits.proofs.Parts.{two_parts}
use Rattle.dmr_burst.specs.Layout.{slot_type_field}
use Rattle.dmr_listing.proofs.wrong.slot_type_bits.Goals as goal

pub returns : goal.returns
returns c =
    let first = c.put_part.ensures in
    let second = c.put_part-2.ensures in
    let both = rw first.value at second.value in
    let long = ap (λ n. 10 + n) second.count ∙ sym first.length in
    record { value = both ∙ two_parts _ _ _ 10 first.count long ∙ ap slot_type_field c.from_octets-bits.ensures.value }
