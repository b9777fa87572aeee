use Rattle.std.proofs.Common.{◌<◌, ◌≤◌, All, length}
use Rattle.dmr_script.proofs.packets.wanted_blocks.Given as goal

abbrev pub invariant-loop-serials : goal.invariant-loop-serials
invariant-loop-serials l = record {
  most : length l.serials.items ≤ 127;
  serials : All (λ serial. serial < 127) l.serials.items;
}

abbrev pub decreases-loop-serials : goal.decreases-loop-serials
decreases-loop-serials l = length l.cursor.rest.now
