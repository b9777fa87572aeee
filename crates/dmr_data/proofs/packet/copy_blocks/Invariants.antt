-- The first of the others are there.
use Rattle.std.proofs.Common.{◌≡◌, take}
use Rattle.dmr_data.proofs.packet.copy_blocks.Given as goal

abbrev pub invariant-loop-block : goal.invariant-loop-block
invariant-loop-block l = l.cells.items ≡ take l.block-index l.others
