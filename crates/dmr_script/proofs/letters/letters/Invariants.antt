use Rattle.std.proofs.Common.{length, ◌≤◌}
use Rattle.dmr_script.proofs.letters.letters.Given as goal

abbrev pub invariant-loop-word : goal.invariant-loop-word
invariant-loop-word l = length l.letters.items ≤ 1048576

abbrev pub decreases-loop-word : goal.decreases-loop-word
decreases-loop-word l = length l.cursor.rest.now
