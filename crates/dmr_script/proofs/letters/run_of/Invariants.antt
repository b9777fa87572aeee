-- The same letter so far.
use Rattle.std.proofs.Common.{◌≡◌, ◌+◌, ◌++◌, length, replicate}
use Rattle.dmr_script.proofs.letters.run_of.Given as goal

abbrev pub invariant-loop-behind : goal.invariant-loop-behind
invariant-loop-behind l = record {
  run : l.letters ≡ replicate l.count l.letter ++ l.behind;
  count : l.count + length l.behind ≡ length l.letters;
}

abbrev pub decreases-loop-behind : goal.decreases-loop-behind
decreases-loop-behind l = length l.behind
