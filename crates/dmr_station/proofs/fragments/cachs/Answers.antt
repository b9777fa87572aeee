use Rattle.std.proofs.Common.{true, false, arith}
use Rattle.dmr_bits.specs.Bits.{bits_of_octets}
use Rattle.dmr_station.proofs.Cachs.{four_cachs, four_octets, with_fragment}
use Rattle.dmr_station.proofs.fragments.cachs.Goals as goal

pub returns : goal.returns
returns c = record {
  octets = four_octets c.cach_at.result c.cach_at-2.result c.cach_at-3.result c.cach_at-4.result c.cach_at.ensures.octets
      c.cach_at-2.ensures.octets c.cach_at-3.ensures.octets c.cach_at-4.ensures.octets;
  cachs = four_cachs c.args.busy c.args.fragments.now c.cach_at.result c.cach_at-2.result c.cach_at-3.result c.cach_at-4.result
      (with_fragment c.args.busy false 1 c.args.fragments.now 0 c.index-fragments-0.result
      (bits_of_octets c.cach_at.result) (omega arith) c.told-fragments c.cach_at.ensures.cach)
      (with_fragment c.args.busy true 3 c.args.fragments.now 1 c.index-fragments-1.result
      (bits_of_octets c.cach_at-2.result) (omega arith) c.told-fragments c.cach_at-2.ensures.cach)
      (with_fragment c.args.busy false 3 c.args.fragments.now 2 c.index-fragments-2.result
      (bits_of_octets c.cach_at-3.result) (omega arith) c.told-fragments c.cach_at-3.ensures.cach)
      (with_fragment c.args.busy true 2 c.args.fragments.now 3 c.index-fragments-3.result
      (bits_of_octets c.cach_at-4.result) (omega arith) c.told-fragments c.cach_at-4.ensures.cach);
}
