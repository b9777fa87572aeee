-- None of those so far is there.
use Rattle.std.proofs.Common.{◌≡◌}
use Rattle.dmr_script.specs.Shapes.{there_within}
use Rattle.dmr_script.proofs.call_shapes.is_there_within.Given as goal

abbrev pub invariant-loop-left : goal.invariant-loop-left
invariant-loop-left l = there_within l.left l.is_ended l.rest ≡ there_within l.count l.is_ended l.places

abbrev pub decreases-loop-left : goal.decreases-loop-left
decreases-loop-left l = l.left
