-- What is put of a log.
use Rattle.std.specs.Prelude.{◌≡◌, ℕ, ◌-◌, ◌==◌, List, [], ◌∷◌, ◌++◌, Option, Some, None, if◌then◌else◌}
use Rattle.std.specs.Io.KnownBytes.{Appends}
use Rattle.dmr_gateway.specs.declared.received.Received.{Received}
use Rattle.dmr_lines.specs.Line.{PutsLine}
use Rattle.dmr_log.specs.declared.log.FrameTold.{FrameTold}
use Rattle.dmr_log.specs.declared.transmission.Ended.{Ended}
use Rattle.dmr_log_forms.specs.Columns.{columns_of, of_received}
use Rattle.dmr_log_forms.specs.Rows.{ShowsColumns}
use Rattle.dmr_log_forms.specs.declared.columns.EntryColumns.{EntryColumns}
use Rattle.dmr_log_forms.specs.declared.settings.LogForm.{LogForm}
use Rattle.dmr_log_forms.specs.declared.settings.LogForm.TheVariants as form
use Rattle.dmr_show.specs.Filter.{lets_pass}
use Rattle.dmr_show.specs.declared.filter.Filter.{Filter}

-- 1. Entries.

-- An entry with these columns is put: in a table a row that shows them, and else a line of some text.
abbrev pub PutsEntry : LogForm → EntryColumns → Option (List ℕ) → Option (List ℕ) → Type 0
PutsEntry form.Table columns old new = (row : List ℕ) × ShowsColumns columns row × Appends old new row
PutsEntry form.Lines columns old new = PutsLine old new
PutsEntry form.Json columns old new = PutsLine old new

-- Entries with these columns are put, one behind the other.
abbrev pub PutsEntries : LogForm → List EntryColumns → Option (List ℕ) → Option (List ℕ) → Type 0
PutsEntries f [] old new = new ≡ old
PutsEntries f (c ∷ cs) old new = (between : Option (List ℕ)) × PutsEntry f c old between × PutsEntries f cs between new

-- 2. What is put of a frame of which a log told.

-- an entry, where the filter lets the place pass in which it begins
abbrev pub shown_entry : Filter → EntryColumns → List EntryColumns
shown_entry filter c = if lets_pass filter c.place then c ∷ [] else []

-- the transmission that ended in a slot, if one did
abbrev pub shown_ended : Filter → ℕ → Option Ended → List EntryColumns
shown_ended filter slot None = []
shown_ended filter slot (Some ended) = shown_entry filter (columns_of slot ended)

-- a record that a gateway of this address received in a frame, if there is one, and it was received in this slot
abbrev pub shown_record : Filter → ℕ → ℕ → ℕ → Option Received → List EntryColumns
shown_record filter slot address frame None = []
shown_record filter slot address frame (Some r) =
    if r.slot == slot then shown_entry filter (of_received (record { frame = frame; slot = slot }) r.kind r.source address) else []

-- those of all records
abbrev pub shown_records : Filter → ℕ → ℕ → ℕ → List (Option Received) → List EntryColumns
shown_records filter slot address frame [] = []
shown_records filter slot address frame (r ∷ rs) =
    shown_record filter slot address frame r ++ shown_records filter slot address frame rs

-- what ended in a slot, and then what was received in that slot in a frame
abbrev pub shown_slot : Filter → ℕ → ℕ → ℕ → Option Ended → List (Option Received) → List EntryColumns
shown_slot filter slot address frame ended received =
    shown_ended filter slot ended ++ shown_records filter slot address frame received

-- what ended in slot 1 and was received in it in a frame, and then that of slot 2
abbrev pub shown_slots : Filter → ℕ → ℕ → FrameTold → List EntryColumns
shown_slots filter address frame told =
    shown_slot filter 1 address frame told.slot_1.ended told.received
    ++ shown_slot filter 2 address frame told.slot_2.ended told.received

-- what ended in front of a frame, and was received in the frame before
abbrev pub shown_of : Filter → ℕ → FrameTold → List EntryColumns
shown_of filter address told = shown_slots filter address (told.frame - 1) told
