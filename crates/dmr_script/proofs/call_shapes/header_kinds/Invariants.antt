-- The headers so far.
use Rattle.std.proofs.Common.{◌≡◌, ◌++◌, length, map}
use Rattle.dmr_script.specs.Shapes.{header_letter}
use Rattle.dmr_script.proofs.call_shapes.header_kinds.Given as goal

abbrev pub invariant-loop-rest : goal.invariant-loop-rest
invariant-loop-rest l = map header_letter l.kinds.items ++ l.rest ≡ l.letters

abbrev pub decreases-loop-rest : goal.decreases-loop-rest
decreases-loop-rest l = length l.rest
