-- The lines of a recording go on, slot by slot.
use Rattle.std.proofs.Common.{◌≡◌, ℕ, ◌+◌, List, [], ◌∷◌, ◌++◌, length, Option, None, Some, refl, sym, ap, ◌∙◌, subst, arith}
use Rattle.std.proofs.Common.{append-nil}
use Rattle.std.proofs.ByRecursion.{All-push}
use Rattle.std.proofs.lemmas.List.Concat.{flat_map-append}
use Rattle.std.specs.List.{flat_map}
use Rattle.std.specs.Io.KnownBytes.{Appends, Consumes}
use Rattle.std.proofs.KnownBytes.{Appends-nil, Appends-trans, Consumes-nil, Consumes-trans}
use Rattle.dmr_recording.specs.Places.{entries, place_by_number}
use Rattle.dmr_recording.specs.Recordings.{IsSlotOf, RecordedSlot, spelling}
use Rattle.dmr_recording.specs.declared.place.Place.{Place}
use Rattle.dmr_recording.specs.declared.recording.RecordedBurst.{RecordedBurst}
use Rattle.dmr_recording.specs.declared.recording.Recording.{Recording}
use Rattle.dmr_recording.proofs.Spelled.{spelled_more}
use Rattle.dmr_record.specs.Devices.{Tears}
use Rattle.dmr_record.proofs.Torn.{Tears_after}
use Rattle.dmr_text.specs.Behind.{IsReadBehind, AreLinesTorn, AreLinesWritten}
use Rattle.dmr_text.specs.Files.{entry_line, records_lines}
use Rattle.dmr_text.specs.Files.File.{Slots}
use Rattle.dmr_text.specs.Spelling.{burst_line}

-- a silent slot more has no entry
pub entries_silence : (number : ℕ) (slots : List RecordedSlot) → entries number (slots ++ None ∷ []) ≡ entries number slots
entries_silence number [] = refl
entries_silence number (None ∷ slots) = entries_silence (number + 1) slots
entries_silence number (Some b ∷ slots) = ap (λ (l : List (Place × RecordedBurst)). (place_by_number number, b) ∷ l)
    (entries_silence (number + 1) slots)

-- a burst more is the last entry
pub entries_burst : (number : ℕ) (slots : List RecordedSlot) (burst : RecordedBurst)
    → entries number (slots ++ Some burst ∷ []) ≡ entries number slots ++ (place_by_number (number + length slots), burst) ∷ []
entries_burst number [] burst = ap (λ n. (place_by_number n, burst) ∷ []) (omega arith)
entries_burst number (None ∷ slots) burst =
    entries_burst (number + 1) slots burst
    ∙ ap (λ n. entries (number + 1) slots ++ (place_by_number n, burst) ∷ []) (omega arith)
entries_burst number (Some b ∷ slots) burst = ap (λ (l : List (Place × RecordedBurst)). (place_by_number number, b) ∷ l)
    (entries_burst (number + 1) slots burst
    ∙ ap (λ n. entries (number + 1) slots ++ (place_by_number n, burst) ∷ []) (omega arith))

lines_silence : (of : Recording) (slots : List RecordedSlot)
    → records_lines (Slots of (slots ++ None ∷ [])) ≡ records_lines (Slots of slots)
lines_silence of slots = ap (flat_map entry_line) (entries_silence 0 slots)

lines_burst : (of : Recording) (slots : List RecordedSlot) (burst : RecordedBurst)
    → records_lines (Slots of (slots ++ Some burst ∷ []))
    ≡ records_lines (Slots of slots) ++ burst_line (place_by_number (length slots)) burst
lines_burst of slots burst =
    ap (flat_map entry_line) (entries_burst 0 slots burst
    ∙ ap (λ n. entries 0 slots ++ (place_by_number n, burst) ∷ []) zero_more)
    ∙ flat_map-append entry_line (entries 0 slots) ((place_by_number (length slots), burst) ∷ [])
    ∙ ap (λ l. flat_map entry_line (entries 0 slots) ++ l) (append-nil (burst_line (place_by_number (length slots)) burst))
  where
    zero_more : 0 + length slots ≡ length slots
    zero_more = omega arith

pub slots_none : (of : Recording) (left held : Option (List ℕ)) → AreLinesWritten (Slots of []) left left held held
slots_none of left held = record {
  read = record { records = tt; octets = Consumes-nil left };
  text = Appends-nil held;
}

-- a slot more was read
pub slot_read : (of : Recording) (slots : List RecordedSlot) (slot : RecordedSlot) (a b c : Option (List ℕ))
    → IsReadBehind (Slots of slots) [] a b → IsSlotOf of slot → Consumes b c (spelling of slot)
    → IsReadBehind (Slots of (slots ++ slot ∷ [])) [] a c
slot_read of slots slot a b c read is_slot took = record {
  records = All-push (IsSlotOf of) slots slot read.records is_slot;
  octets = spelled_more of slots slot a b c read.octets took;
}

-- some octets more were read
pub slots_part : (of : Recording) (slots : List RecordedSlot) (part : List ℕ) (a b c : Option (List ℕ))
    → IsReadBehind (Slots of slots) [] a b → Consumes b c part → IsReadBehind (Slots of slots) part a c
slots_part of slots part a b c read took = record {
  records = read.records;
  octets = Consumes-trans a b c _ part (subst (Consumes a b) (append-nil (flat_map (spelling of) slots)) read.octets) took;
}

-- where a silent slot more was read, the lines that were written are still those of all slots
pub silence_written : (of : Recording) (slots : List RecordedSlot) (a b c d e : Option (List ℕ))
    → AreLinesWritten (Slots of slots) a b d e → Consumes b c (spelling of None)
    → AreLinesWritten (Slots of (slots ++ None ∷ [])) a c d e
silence_written of slots a b c d e written took = record {
  read = slot_read of slots None a b c written.read tt took;
  text = subst (Appends d e) (sym (lines_silence of slots)) written.text;
}

-- where a burst more was read and its line written, so are the lines of all slots
pub burst_written : (of : Recording) (slots : List RecordedSlot) (burst : RecordedBurst) (a b c d e f : Option (List ℕ))
    → AreLinesWritten (Slots of slots) a b d e → IsSlotOf of (Some burst) → Consumes b c (spelling of (Some burst))
    → Appends e f (burst_line (place_by_number (length slots)) burst)
    → AreLinesWritten (Slots of (slots ++ Some burst ∷ [])) a c d f
burst_written of slots burst a b c d e f written is_burst took more = record {
  read = slot_read of slots (Some burst) a b c written.read is_burst took;
  text = subst (Appends d f) (sym (lines_burst of slots burst)) (Appends-trans d e f _ _ written.text more);
}

-- the same, where its line was torn: so are the lines of all slots
pub burst_torn : (of : Recording) (slots : List RecordedSlot) (burst : RecordedBurst) (a b c d e f : Option (List ℕ))
    → AreLinesWritten (Slots of slots) a b d e → IsSlotOf of (Some burst) → Consumes b c (spelling of (Some burst))
    → Tears e f (burst_line (place_by_number (length slots)) burst)
    → AreLinesTorn (Slots of (slots ++ Some burst ∷ [])) a c d f
burst_torn of slots burst a b c d e f written is_burst took torn = record {
  read = slot_read of slots (Some burst) a b c written.read is_burst took;
  text = subst (Tears d f) (sym (lines_burst of slots burst)) (Tears_after d e f _ _ written.text torn);
}
