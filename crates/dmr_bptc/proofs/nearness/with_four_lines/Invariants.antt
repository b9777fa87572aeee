use Rattle.std.proofs.Common.{◌+◌}
use Rattle.dmr_bptc.specs.Seen.{AreSeen}
use Rattle.dmr_bptc.proofs.nearness.with_four_lines.Given as goal

abbrev pub invariant-loop-line : goal.invariant-loop-line
invariant-loop-line l = AreSeen l.bits (l.from + l.line) l.seen.once l.seen.twice
