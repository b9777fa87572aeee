-- A file of a run, and its text.
use Rattle.std.specs.Prelude.{◌≡◌, ℕ, ◌/◌, ◌%◌, List, ◌++◌, Option, Some, None, length}
use Rattle.std.specs.List.{AllByRecursion, flat_map}
use Rattle.dmr_recording.specs.Places.{entries, place_by_number}
use Rattle.dmr_recording.specs.Recordings.{IsSlotOf, RecordedSlot, ShowsSlotFaultOf, spelling}
use Rattle.dmr_record.specs.Received.{last_fields}
use Rattle.dmr_recording.specs.declared.place.Place.{Place}
use Rattle.dmr_recording.specs.declared.recording.RecordedBurst.{RecordedBurst}
use Rattle.dmr_recording.specs.declared.recording.Recording.{Recording}
use Rattle.dmr_recording.specs.declared.recording.Recording.TheVariants as recording
use Rattle.dmr_record.specs.Head.{head_octets, magic_of, record_limit}
use Rattle.dmr_record.specs.Outgoing.{AreInFrameOrder, IsSending, Sending, ShowsOutgoingFault, last_frame, sendings_octets}
use Rattle.dmr_record.specs.Received.{FollowEachOther, IsReadable, Receipt, ShowsReceivedFault, received_limit, receipts_octets}
use Rattle.dmr_record.specs.declared.fault.RecordFault.{RecordFault}
use Rattle.dmr_record.specs.declared.head.FileFormat.{FileFormat}
use Rattle.dmr_record.specs.declared.head.FileFormat.TheVariants.{Uplink, Downlink, Outgoing, Received}
use Rattle.dmr_text.specs.Spelling.{burst_line, title_line, frames_line, receipt_line, records_line, sending_line}
use Rattle.dmr_text.specs.declared.carried.Carried.{Carried}
use Rattle.dmr_text.specs.declared.carried.Carried.TheVariants as carried

-- What stands in a file: the slots of a recording, or the records of a list.
pub data File : Type 0 where
  Slots : Recording → List RecordedSlot → File
  Sendings : List Sending → File
  Receipts : List Receipt → File

-- the format of the file of a recording
abbrev pub recording_format : Recording → FileFormat
recording_format recording.Uplink = Uplink
recording_format recording.Downlink = Downlink

-- the format of a file
abbrev pub file_format : File → FileFormat
file_format (Slots of slots) = recording_format of
file_format (Sendings sendings) = Outgoing
file_format (Receipts receipts) = Received

-- the octets of its records, behind its head
abbrev pub records_octets : File → List ℕ
records_octets (Slots of slots) = flat_map (spelling of) slots
records_octets (Sendings sendings) = sendings_octets sendings
records_octets (Receipts receipts) = receipts_octets receipts

-- its octets: its head, and then its records
abbrev pub file_octets : File → List ℕ
file_octets file = head_octets (magic_of (file_format file)) ++ records_octets file

-- Each record is one that the file may hold, and stands in its order.
abbrev pub AreRecords : File → Type 0
AreRecords (Slots of slots) = AllByRecursion (IsSlotOf of) slots
AreRecords (Sendings sendings) = AllByRecursion IsSending sendings × AreInFrameOrder 0 sendings
AreRecords (Receipts receipts) = AllByRecursion IsReadable receipts × FollowEachOther None receipts

-- A file ends only behind whole frames.
abbrev pub HasWholeFrames : File → Type 0
HasWholeFrames (Slots of slots) = length slots % 2 ≡ 0
HasWholeFrames file = Unit {0}

-- the line of a burst in its place
abbrev pub entry_line : Place × RecordedBurst → List ℕ
entry_line entry = burst_line entry.0 entry.1

-- The lines of its records, in their order. Silence has none.
abbrev pub records_lines : File → List ℕ
records_lines (Slots of slots) = flat_map entry_line (entries 0 slots)
records_lines (Sendings sendings) = flat_map sending_line sendings
records_lines (Receipts receipts) = flat_map receipt_line receipts

-- how much it holds
abbrev pub carried_of : File → Carried
carried_of (Slots of slots) = carried.Recording (length slots / 2)
carried_of (Sendings sendings) = carried.List (length sendings)
carried_of (Receipts receipts) = carried.List (length receipts)

-- the line that a text ends with: how many frames a recording has, two slots each, and how many records a list
abbrev pub last_line : Carried → List ℕ
last_line (carried.Recording frames) = frames_line frames
last_line (carried.List records) = records_line records

-- its text up to its last line: a line that says what it is, and those of its records
abbrev pub open_text : File → List ℕ
open_text file = title_line (file_format file) ++ records_lines file

-- the text of a file
abbrev pub file_text : File → List ℕ
file_text file = open_text file ++ last_line (carried_of file)

-- These octets behind its records show this fault.
abbrev pub ShowsFaultBehind : File → RecordFault → List ℕ → Type 0
ShowsFaultBehind (Slots of slots) fault part = ShowsSlotFaultOf of (length slots) fault part
ShowsFaultBehind (Sendings sendings) fault part =
    ShowsOutgoingFault record_limit (length sendings) (last_frame 0 sendings) fault part
ShowsFaultBehind (Receipts receipts) fault part =
    ShowsReceivedFault received_limit (length receipts) (last_fields None receipts) fault part

-- the slot behind its records, in a recording
abbrev pub place_behind : File → Option Place
place_behind (Slots of slots) = Some (place_by_number (length slots))
place_behind file = None
