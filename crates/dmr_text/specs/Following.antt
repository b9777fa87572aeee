-- What a line may say behind the records of a file.
use Rattle.std.specs.Prelude.{◌≡◌, ℕ, ◌*◌, ◌<◌, ◌≤◌, List, None, length}
use Rattle.dmr_recording.specs.Places.{place_by_number}
use Rattle.dmr_recording.specs.Recordings.{slot_limit_of}
use Rattle.dmr_recording.specs.declared.recording.RecordedBurst.{RecordedBurst}
use Rattle.dmr_record.specs.Head.{record_limit}
use Rattle.dmr_record.specs.Outgoing.{IsSending, Sending, last_frame}
use Rattle.dmr_record.specs.Received.{Follows, IsReadable, Receipt, last_fields, received_fields, received_limit}
use Rattle.dmr_text.specs.Files.{File, Receipts, Sendings, Slots}
use Rattle.dmr_text.specs.Says.{SaysEntry, SaysReceipt, SaysSending}
use Rattle.dmr_text.specs.Spelling.{frames_words, records_words}

-- These words say a record that may stand behind those of this file: a burst in a later slot, or a record in its order, within the
-- limit of the file.
abbrev pub SaysNext : File → List (List ℕ) → Type 0
SaysNext (Slots of slots) words = (number : ℕ) × (burst : RecordedBurst) × (length slots ≤ number) × (number < slot_limit_of of)
    × SaysEntry of words (place_by_number number, burst)
SaysNext (Sendings sendings) words = (next : Sending) × (length sendings < record_limit) × IsSending next
    × (last_frame 0 sendings ≤ next.frame) × SaysSending words next
SaysNext (Receipts receipts) words = (next : Receipt) × (length receipts < received_limit) × IsReadable next
    × Follows (last_fields None receipts) (received_fields next) × SaysReceipt words next

-- These words may end the text of a file with these records, and of a recording with silence behind them.
abbrev pub SaysLast : File → List (List ℕ) → Type 0
SaysLast (Slots of slots) words = (frames : ℕ) × (length slots ≤ 2 * frames) × (2 * frames ≤ slot_limit_of of)
    × (words ≡ frames_words frames)
SaysLast (Sendings sendings) words = words ≡ records_words (length sendings)
SaysLast (Receipts receipts) words = words ≡ records_words (length receipts)
