-- No line that counts has been told.
use Rattle.std.proofs.Common.{◌≡◌, ◌-◌, ◌≤◌, [], true, false}
use Rattle.std.specs.Io.KnownBytes.{IsAtEnd}
use Rattle.dmr_words.specs.Lines.{TellsLines, worded_behind, last_number}
use Rattle.dmr_words.proofs.lines.Lines.next_worded.Given as goal

abbrev pub invariant-loop-self : goal.invariant-loop-self
invariant-loop-self g l = record {
  well : g.S.Source.has_failed l.source ≡ false;
  over : l.self.is_over ≡ true → IsAtEnd (g.S.Source.left l.source);
  first : l.initial.self.number ≤ l.self.number;
  told : TellsLines worded_behind l.initial.self l.self (g.S.Source.left l.initial.source) (g.S.Source.left l.source) [];
}

abbrev pub decreases-loop-self : goal.decreases-loop-self
decreases-loop-self g l = last_number - l.self.number
