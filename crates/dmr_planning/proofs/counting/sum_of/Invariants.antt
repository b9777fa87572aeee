-- What is left, and the parts so far, are the frames of a recording.
use Rattle.std.proofs.Common.{◌≡◌, ◌+◌, take}
use Rattle.std.specs.List.{sum}
use Rattle.dmr_planning.proofs.counting.sum_of.Given as goal

abbrev pub invariant-loop-part : goal.invariant-loop-part
invariant-loop-part l = l.left + sum (take l.part-index l.parts) ≡ 1048576
