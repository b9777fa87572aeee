-- What was read of a recording behind its head.
use Rattle.std.specs.Prelude.{◌≡◌, ℕ, ◌+◌, ◌-◌, ◌*◌, ◌≤◌, true, List, [], Option, if◌then◌else◌, length}
use Rattle.std.specs.Io.KnownBytes.{IsAtEnd}
use Rattle.dmr_listing.specs.ListingRules.{IsRead, ListingTurn}
use Rattle.dmr_recording.specs.Places.{octet_behind}
use Rattle.dmr_recording.specs.Recordings.{slot_limit_of, spelling}
use Rattle.dmr_recording.specs.declared.recording.Recording.{Recording}
use Rattle.dmr_compare.specs.Slots.{ListedSlot, lines_of, bare_slots}
use Rattle.dmr_compare.specs.declared.reader.SlotReader.{SlotReader}

-- These slots of a recording were read behind its head, with the lines that a listing has of them, up to this turn.
abbrev pub AreSlotsRead : Recording → List ListedSlot → ListingTurn → (left_old left_new : Option (List ℕ)) → Type 0
AreSlotsRead recording slots turn left_old left_new =
    IsRead recording (bare_slots slots) (lines_of slots) [] turn left_old left_new

-- A reader has read these slots, and stands behind them: it knows how many there are, where the next record begins, and whether
-- there is one.
pub record HasRead (reader : SlotReader) (slots : List ListedSlot) (left_old left_new : Option (List ℕ)) : Type 0 where
  pub read : AreSlotsRead reader.recording slots reader.view left_old left_new
  pub count : reader.view.slots ≡ length slots
  pub few : reader.view.slots ≤ slot_limit_of reader.recording
  pub octet : reader.octet ≡ octet_behind (spelling reader.recording) (bare_slots slots)
  pub room : reader.octet ≤ 8 + 37 * reader.view.slots
  pub over : reader.is_over ≡ true → IsAtEnd left_new

-- the most slots that may still come, and the end
abbrev pub slots_to_come : SlotReader → ℕ
slots_to_come reader = if reader.is_over then 0 else 1 + (slot_limit_of reader.recording - reader.view.slots)
