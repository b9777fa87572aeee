-- The lines so far say the statements so far.
use Rattle.std.proofs.Common.{◌≡◌, ◌-◌, ◌≤◌, All, true, false}
use Rattle.std.specs.Io.KnownBytes.{IsAtEnd}
use Rattle.dmr_words.specs.Lines.{fresh_text, last_number}
use Rattle.dmr_script.specs.Fits.{FitsNumbered}
use Rattle.dmr_script.specs.Order.{MayStandBehind, said_nothing, said_with_all}
use Rattle.dmr_script.specs.Reading.{AreLinesSaid}
use Rattle.dmr_script.proofs.reading.read_script.Given as goal

abbrev pub invariant-loop-is_told : goal.invariant-loop-is_told
invariant-loop-is_told g l = record {
  source : g.S.Source.has_failed l.source ≡ false;
  over : l.lines.is_over ≡ true → IsAtEnd (g.S.Source.left l.source);
  number : l.lines.number ≤ last_number;
  fit : All FitsNumbered l.statements.items;
  follow : MayStandBehind said_nothing l.statements.items;
  behind : l.said ≡ said_with_all said_nothing l.statements.items;
  said : AreLinesSaid fresh_text l.lines (g.S.Source.left l.initial.source) (g.S.Source.left l.source) l.statements.items;
}

abbrev pub decreases-loop-is_told : goal.decreases-loop-is_told
decreases-loop-is_told g l = last_number - l.lines.number
