-- What was read of a list behind its head.
use Rattle.std.specs.Prelude.{◌≡◌, ℕ, ◌+◌, ◌-◌, ◌*◌, ◌<◌, ◌≤◌, true, List, [], Option, Some, None, if◌then◌else◌, length, map, take}
use Rattle.std.specs.Io.KnownBytes.{IsAtEnd}
use Rattle.dmr_compare.specs.ListRecords.{ListRecord, OfOutgoing, OfReceived, limit_of, record_octets}
use Rattle.dmr_compare.specs.declared.list_reader.LastRecord.{LastRecord}
use Rattle.dmr_compare.specs.declared.list_reader.LastRecord.TheVariants as last
use Rattle.dmr_compare.specs.declared.list_reader.ListReader.{ListReader}
use Rattle.dmr_compare.specs.declared.list_record.ListKind.{ListKind}
use Rattle.dmr_compare.specs.declared.list_record.ListKind.TheVariants as kind
use Rattle.dmr_compare.specs.declared.list_record.RecordHead.{RecordHead}
use Rattle.dmr_compare.specs.declared.list_record.RecordHead.TheVariants as head
use Rattle.dmr_listing.specs.OutgoingListings.{AreSendingsRead, AreSendingsReadUpToFault}
use Rattle.dmr_listing.specs.ReceivedListings.{AreReceiptsRead, AreReceiptsReadUpToFault}
use Rattle.dmr_record.specs.Head.{record_limit}
use Rattle.dmr_record.specs.Outgoing.{IsSending, Sending, ShowsOutgoingFault, last_frame, whole_sending}
use Rattle.dmr_record.specs.Received.{Follows, IsReceipt, IsSlot, Receipt, ShowsReceivedFault, fields_read, last_fields, last_read}
use Rattle.dmr_record.specs.Received.{receipt_of, received_limit}
use Rattle.dmr_record.specs.declared.fault.RecordFault.{RecordFault}
use Rattle.dmr_recording.specs.Places.{octet_behind}
use Rattle.dmr_recording.specs.declared.fault_line.FaultLine.{FaultLine}

-- 1. Lists.

-- These records of a list were read behind its head.
abbrev pub AreRecordsRead : ListKind → List ListRecord → (left_old left_new : Option (List ℕ)) → Type 0
AreRecordsRead kind.Outgoing records left_old left_new =
    (sendings : List Sending) × (records ≡ map OfOutgoing sendings) × AreSendingsRead sendings [] left_old left_new
AreRecordsRead kind.Received records left_old left_new =
    (receipts : List Receipt) × (records ≡ map OfReceived receipts) × AreReceiptsRead receipts [] left_old left_new

-- A list was read up to a record that shows this fault, behind these records.
abbrev pub AreRecordsReadUpToFault : ListKind → List ListRecord → FaultLine → (left_old left_new : Option (List ℕ)) → Type 0
AreRecordsReadUpToFault kind.Outgoing records fault left_old left_new =
    (sendings : List Sending) × (records ≡ map OfOutgoing sendings)
    × AreSendingsReadUpToFault sendings fault left_old left_new
AreRecordsReadUpToFault kind.Received records fault left_old left_new =
    (receipts : List Receipt) × (records ≡ map OfReceived receipts)
    × AreReceiptsReadUpToFault receipts fault left_old left_new

-- 2. A record.

-- how many octets a record carries
abbrev pub length_of : RecordHead → ℕ
length_of (head.Outgoing r) = r.length
length_of (head.Received r) = r.length

-- the record of this head that carries these octets
abbrev pub record_with : RecordHead → List ℕ → ListRecord
record_with (head.Outgoing r) octets = OfOutgoing (whole_sending r octets)
record_with (head.Received r) octets = OfReceived (receipt_of r octets)

-- the record of this head whose octets are at the front of a room
abbrev pub record_in : RecordHead → List ℕ → ListRecord
record_in head room = record_with head (take (length_of head) room)

-- the record that was found, if there was one
abbrev pub record_found : Option RecordHead → List ℕ → Option ListRecord
record_found None room = None
record_found (Some head) room = Some (record_in head room)

-- 3. The last record before.

-- that no record was read of a list
abbrev pub no_record : ListKind → LastRecord
no_record kind.Outgoing = last.Outgoing 0
no_record kind.Received = last.Received None

-- the kind of a list whose last record is this
abbrev pub kind_behind : LastRecord → ListKind
kind_behind (last.Outgoing frame) = kind.Outgoing
kind_behind (last.Received received) = kind.Received

-- A record of these octets may stand behind the last one, with so many before it.
abbrev pub StandsBehind : LastRecord → (before : ℕ) → RecordHead → (octets : List ℕ) → Type 0
StandsBehind (last.Outgoing frame) before (head.Outgoing r) octets =
    (before < record_limit) × (frame ≤ r.frame) × (length octets ≡ r.length) × IsSending (whole_sending r octets)
StandsBehind (last.Received received) before (head.Received r) octets =
    (before < received_limit) × IsSlot r.slot × Follows (last_read received) (fields_read r) × (length octets ≡ r.length)
    × IsReceipt (receipt_of r octets)
StandsBehind last before head octets = ⊥

-- These octets show this fault of a record behind the last one, with so many before it.
abbrev pub ShowsFaultBehind : LastRecord → (before : ℕ) → RecordFault → (taken : List ℕ) → Type 0
ShowsFaultBehind (last.Outgoing frame) before fault taken = ShowsOutgoingFault record_limit before frame fault taken
ShowsFaultBehind (last.Received received) before fault taken =
    ShowsReceivedFault received_limit before (last_read received) fault taken

-- the last record, where it is this one
abbrev pub last_of : RecordHead → LastRecord
last_of (head.Outgoing r) = last.Outgoing r.frame
last_of (head.Received r) = last.Received (Some r)

-- 4. A reader.

-- These records of a list were read behind its head, and this is the last of them.
abbrev pub AreRecordsReadTo : LastRecord → List ListRecord → (left_old left_new : Option (List ℕ)) → Type 0
AreRecordsReadTo (last.Outgoing frame) records left_old left_new =
    (sendings : List Sending) × (records ≡ map OfOutgoing sendings) × (last_frame 0 sendings ≡ frame)
    × AreSendingsRead sendings [] left_old left_new
AreRecordsReadTo (last.Received received) records left_old left_new =
    (receipts : List Receipt) × (records ≡ map OfReceived receipts) × (last_fields None receipts ≡ last_read received)
    × AreReceiptsRead receipts [] left_old left_new

-- A reader has read these records, and stands behind them: it knows how many there are, where the next one begins, and whether there
-- is one.
pub record HasReadRecords (reader : ListReader) (records : List ListRecord) (left_old left_new : Option (List ℕ)) : Type 0 where
  pub read : AreRecordsReadTo reader.last records left_old left_new
  pub count : reader.count ≡ length records
  pub few : reader.count ≤ limit_of (kind_behind reader.last)
  pub octet : reader.octet ≡ octet_behind record_octets records
  pub room : reader.octet ≤ 8 + 65547 * reader.count
  pub over : reader.is_over ≡ true → IsAtEnd left_new

-- the most records that may still come, and the end
abbrev pub records_to_come : ListReader → ℕ
records_to_come reader = if reader.is_over then 0 else 1 + (limit_of (kind_behind reader.last) - reader.count)
