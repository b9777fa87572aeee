-- What a line of an outgoing list says.
use Rattle.std.specs.Prelude.{◌≡◌, ℕ, ◌<◌, ◌≤◌, List, length, take}
use Rattle.dmr_record.specs.Head.{record_limit}
use Rattle.dmr_record.specs.Outgoing.{IsSending, whole_sending}
use Rattle.dmr_text.specs.Says.{SaysSending}
use Rattle.dmr_text.specs.Spelling.{records_words}
use Rattle.dmr_text.specs.declared.import_outgoing.SendingLine.{SendingLine}
use Rattle.dmr_text.specs.declared.import_outgoing.SendingLine.TheVariants as line

-- Behind so many records, the last of which has this frame, these words say a record with octets that stand at the front of a room,
-- or how many records there are.
abbrev pub IsSendingLine : ℕ → ℕ → List ℕ → List (List ℕ) → SendingLine → Type 0
IsSendingLine count last room words (line.Sending r) = (count < record_limit) × (last ≤ r.frame)
    × (length (take r.length room) ≡ r.length)
    × SaysSending words (whole_sending r (take r.length room)) × IsSending (whole_sending r (take r.length room))
IsSendingLine count last room words line.Last = words ≡ records_words count
