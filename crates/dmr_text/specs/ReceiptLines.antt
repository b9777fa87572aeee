-- What a line of a received list says.
use Rattle.std.specs.Prelude.{◌≡◌, ℕ, ◌<◌, List, Option, Some, None, length, take}
use Rattle.dmr_record.specs.Received.{Follows, IsReadable, ReceivedFields, fields_read, receipt_of, received_limit}
use Rattle.dmr_record.specs.declared.received.ReceivedKind.{ReceivedKind}
use Rattle.dmr_text.specs.Says.{SaysReceipt}
use Rattle.dmr_text.specs.Spelling.{kind_word, records_words}
use Rattle.dmr_text.specs.TextFaults.{IsNoKind}
use Rattle.dmr_text.specs.declared.import_received.ReceiptLine.{ReceiptLine}
use Rattle.dmr_text.specs.declared.import_received.ReceiptLine.TheVariants as line

-- a word is this kind, or none
abbrev pub IsKindOf : Option ReceivedKind → List ℕ → Type 0
IsKindOf None word = IsNoKind word
IsKindOf (Some kind) word = word ≡ kind_word kind

-- Behind so many records, the last of which has these fields, these words say a record with octets that stand at the front of a
-- room, or how many records there are.
abbrev pub IsReceiptLine : ℕ → Option ReceivedFields → List ℕ → List (List ℕ) → ReceiptLine → Type 0
IsReceiptLine count last room words (line.Receipt r) = (count < received_limit) × Follows last (fields_read r)
    × (length (take r.length room) ≡ r.length)
    × SaysReceipt words (receipt_of r (take r.length room)) × IsReadable (receipt_of r (take r.length room))
IsReceiptLine count last room words line.Last = words ≡ records_words count
