-- The last of those that are left is the last of all.
use Rattle.std.proofs.Common.{◌≡◌, length, true}
use Rattle.dmr_script.specs.Foreign.{ends_there}
use Rattle.dmr_script.proofs.packet_shapes.may_be_foreign.Given as goal

abbrev pub invariant-loop-is_sent : goal.invariant-loop-is_sent
invariant-loop-is_sent l = ends_there l.rest ≡ true → ends_there l.shape.blocks.items ≡ true

abbrev pub decreases-loop-is_sent : goal.decreases-loop-is_sent
decreases-loop-is_sent l = length l.rest
