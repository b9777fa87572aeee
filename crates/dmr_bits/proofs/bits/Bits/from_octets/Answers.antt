use Rattle.std.proofs.Common.{drop, replicate, length, ap, ◌∙◌}
use Rattle.dmr_bits.specs.Bits.{bits_of_octets}
use Rattle.dmr_bits.proofs.Packed.{octets_packed, octets_unpacked, drop_zeros}
use Rattle.dmr_bits.proofs.bits.Bits.from_octets.Goals as goal

pub invariant_of-result : goal.invariant_of-result
invariant_of-result g c =
    octets_packed g.row.N g.row.M c.copy_from_slice.new.self (drop g.row.M (replicate 40 0)) c.words_of.result c.requires.whole
    c.requires.capacity (ap length c.copy_from_slice.ensures.after
    ∙ c.told-octets) c.words_of.ensures.long c.words_of.ensures.small c.words_of.ensures.value
    (drop_zeros g.row.N g.row.M c.requires.whole c.requires.capacity)

pub returns : goal.returns
returns g c = record {
  value = octets_unpacked g.row.N g.row.M c.copy_from_slice.new.self (drop g.row.M (replicate 40 0)) c.words_of.result
      c.requires.whole (ap length c.copy_from_slice.ensures.after ∙ c.told-octets) c.words_of.ensures.value
      ∙ ap bits_of_octets c.copy_from_slice.ensures.after;
}
