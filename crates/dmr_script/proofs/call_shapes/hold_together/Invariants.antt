-- Those so far hold together.
use Rattle.std.proofs.Common.{◌≡◌, length}
use Rattle.dmr_script.specs.Shapes.{is_unbroken}
use Rattle.dmr_script.proofs.call_shapes.hold_together.Given as goal

abbrev pub invariant-loop-is_there : goal.invariant-loop-is_there
invariant-loop-is_there l = is_unbroken l.is_ended l.rest ≡ is_unbroken l.is_ended l.places

abbrev pub decreases-loop-is_there : goal.decreases-loop-is_there
decreases-loop-is_there l = length l.rest
