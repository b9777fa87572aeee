use Rattle.std.proofs.Common.{◌*◌}
use Rattle.dmr_bptc.specs.Seen.{AreSeen}
use Rattle.dmr_bptc.proofs.nearness.differs_once_a_column.Given as goal

abbrev pub invariant-loop-group : goal.invariant-loop-group
invariant-loop-group l = AreSeen l.wrong (4 * l.group) l.seen.once l.seen.twice
