use Rattle.std.proofs.Common.{arith}
use Rattle.dmr_station.proofs.Cachs.{four_octets}
use Rattle.dmr_station.proofs.Refilling.{four_refilled, refills_at}
use Rattle.dmr_station.proofs.fragments.refilled.Goals as goal

pub returns : goal.returns
returns c = record {
  octets = four_octets c.with_fragment.result c.with_fragment-2.result c.with_fragment-3.result c.with_fragment-4.result
      c.with_fragment.ensures.octets c.with_fragment-2.ensures.octets c.with_fragment-3.ensures.octets
      c.with_fragment-4.ensures.octets;
  cachs = four_refilled c.args.cachs.now c.args.fragments.now c.with_fragment.result c.with_fragment-2.result
      c.with_fragment-3.result c.with_fragment-4.result
      (refills_at c.args.cachs.now c.args.fragments.now 0 _ c.index-fragments-0.result
      c.with_fragment.result (omega arith) (omega arith) c.with_fragment.ensures.cach)
      (refills_at c.args.cachs.now c.args.fragments.now 1 _ c.index-fragments-1.result
      c.with_fragment-2.result (omega arith) (omega arith) c.with_fragment-2.ensures.cach)
      (refills_at c.args.cachs.now c.args.fragments.now 2 _ c.index-fragments-2.result
      c.with_fragment-3.result (omega arith) (omega arith) c.with_fragment-3.ensures.cach)
      (refills_at c.args.cachs.now c.args.fragments.now 3 _ c.index-fragments-3.result
      c.with_fragment-4.result (omega arith) (omega arith) c.with_fragment-4.ensures.cach);
}
