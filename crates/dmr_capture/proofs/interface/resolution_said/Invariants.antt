-- What the rest of the options says, all of them say.
use Rattle.std.proofs.Common.{ℕ, length}
use Rattle.dmr_capture.specs.Options.{Says}
use Rattle.dmr_capture.proofs.interface.resolution_said.Given as goal

abbrev pub invariant-loop-rest : goal.invariant-loop-rest
invariant-loop-rest l = record {
  says : (resolution : ℕ) → Says l.order l.rest resolution → Says l.order l.options resolution;
}

abbrev pub decreases-loop-rest : goal.decreases-loop-rest
decreases-loop-rest l = length l.rest
