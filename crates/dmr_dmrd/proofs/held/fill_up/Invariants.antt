-- The line is silent behind what it was.
use Rattle.std.proofs.Common.{◌≡◌, ◌≤◌, ◌-◌, ◌++◌, None, length, replicate}
use Rattle.dmr_dmrd.proofs.held.fill_up.Given as goal

abbrev pub invariant-loop-line : goal.invariant-loop-line
invariant-loop-line l = record {
  behind : length l.line.items ≤ l.frame;
  longer : length l.fn.line.items ≤ length l.line.items;
  silent : l.line.items ≡ l.fn.line.items ++ replicate (length l.line.items - length l.fn.line.items) None;
}

abbrev pub decreases-loop-line : goal.decreases-loop-line
decreases-loop-line l = l.frame - length l.line.items
