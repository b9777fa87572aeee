-- What has come stands in the line, and behind it in the chunk.
use Rattle.std.proofs.Common.{◌≡◌, ◌+◌, ◌*◌, ◌-◌, ◌++◌, ◌⊎◌, length, false}
use Rattle.dmr_words.specs.Lines.{HasLineFeed, IsUnended, Gathers}
use Rattle.dmr_words.proofs.lines.gather.Given as goal

abbrev pub invariant-loop-chunk : goal.invariant-loop-chunk
invariant-loop-chunk g l = record {
  well : g.S.Source.has_failed l.source ≡ false;
  passed : Gathers (g.S.Source.left l.initial.source) (g.S.Source.left l.source) l.initial.chunk (l.line.items ++ l.chunk);
  unended : IsUnended l.line.items;
  first : ((l.source ≡ l.initial.source) × (l.chunk ≡ l.initial.chunk)) ⊎ (HasLineFeed l.initial.chunk → ⊥);
}

abbrev pub decreases-loop-chunk : goal.decreases-loop-chunk
decreases-loop-chunk g l = 2 * (131200 - length l.line.items) + (1 - length l.chunk)
