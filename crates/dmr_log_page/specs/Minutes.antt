-- The minutes of a page.
use Rattle.std.specs.Prelude.{◌≡◌, ℕ, ◌%◌, ◌==◌, Bool, true, false, List, [], ◌++◌, Option, None, map}
use Rattle.std.specs.Io.KnownBytes.{Appends}
use Rattle.dmr_log.specs.declared.log.FrameTold.{FrameTold}
use Rattle.dmr_log_forms.specs.Printed.{shown_of}
use Rattle.dmr_log_forms.specs.declared.columns.EntryColumns.{EntryColumns}
use Rattle.dmr_log_page.specs.Rows.{PutsRows}
use Rattle.dmr_log_page.specs.declared.row.TableRow.{TableRow}
use Rattle.dmr_show.specs.declared.filter.Filter.{Filter}

-- 1. What is put.

-- Some text is put.
abbrev pub PutsText : Option (List ℕ) → Option (List ℕ) → Type 0
PutsText old new = (text : List ℕ) × Appends old new text

-- A minute is put in which these entries ended: its picture, a row for each, and what ends the table.
pub record PutsMinute (entries : List EntryColumns) (old new : Option (List ℕ)) : Type 0 where
  pub before : Option (List ℕ)
  pub behind : Option (List ℕ)
  pub head : PutsText old before
  pub rows : PutsRows entries before behind
  pub end : PutsText behind new

-- 2. What is taken of a log.

-- How far a page has come: what is put, and what ended in the minute that isn't over yet.
pub record PageState : Type 0 where
  pub held : Option (List ℕ)
  pub entries : List EntryColumns

-- what ended in a minute so far
abbrev pub entries_of : List TableRow → List EntryColumns
entries_of rows = map (λ (row : TableRow). row.columns) rows

-- the filter of a log that leaves nothing out
abbrev pub everything : Filter
everything = record { slot = None; from = None; to = None }

-- whether a frame is the first of a minute, which has 1,000
abbrev pub begins_minute : ℕ → Bool
begins_minute frame = frame % 1000 == 0

-- With all entries that ended so far a minute is put where it is over, and else they wait.
abbrev pub Waits : Bool → List EntryColumns → PageState → PageState → Type 0
Waits true all old new = PutsMinute all old.held new.held × (new.entries ≡ [])
Waits false all old new = (new.held ≡ old.held) × (new.entries ≡ all)

-- What is told of a frame is taken, where the gateway has this address: the entries that a log prints of it, in their order, of the
-- minute in front of it.
abbrev pub TakesTold : ℕ → PageState → FrameTold → PageState → Type 0
TakesTold address old told new =
    Waits (begins_minute told.frame) (old.entries ++ shown_of everything address told) old new
