use Rattle.std.proofs.Common.{not, get_or, false, arith}
use Rattle.dmr_codes.proofs.Flips.{distance_same}
use Rattle.dmr_damage.proofs.Near.{near_set}
use Rattle.dmr_damage.proofs.drawing.turned.Goals as goal

pub loop-turn-init : goal.loop-turn-init
loop-turn-init g c = record { near = omega (arith, distance_same c.args.bits.now) }

pub loop-turn-preserved : goal.loop-turn-preserved
loop-turn-preserved g c =
    rw c.turn.ensures.value (record {
      near = omega (
        arith,
        c.loop-turn.invariant.near,
        near_set c.args.bits.now c.loop-turn.found c.below.result (not (get_or c.loop-turn.found c.below.result false)),
      );
    })
