use Rattle.std.proofs.Common.{◌≡◌, length}
use Rattle.dmr_script.proofs.packet_shapes.blocks_of.Given as goal

abbrev pub invariant-loop-letter : goal.invariant-loop-letter
invariant-loop-letter l = length l.blocks.items ≡ l.letter-index
