use Rattle.std.proofs.Common.{◌+◌, ◌*◌}
use Rattle.dmr_bptc.proofs.Lines.{AreColumns}
use Rattle.dmr_bptc.proofs.table.places.received_cells.Given as goal

abbrev pub invariant-loop-group : goal.invariant-loop-group
invariant-loop-group l = AreColumns l.bits (1 + 4 * l.group) l.columns.first l.columns.second l.columns.third l.columns.fourth

abbrev pub invariant-loop-above : goal.invariant-loop-above
invariant-loop-above l =
    AreColumns l.bits (1 + 4 * l.group + l.above) l.columns.first l.columns.second l.columns.third l.columns.fourth
