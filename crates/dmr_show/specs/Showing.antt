-- What was read of a file that was shown.
use Rattle.std.specs.Prelude.{◌≡◌, ◌+◌, ◌*◌, ◌⊎◌, ℕ, Bool, false, true, List, [], Option, None, Result, Ok, Err, length}
use Rattle.std.specs.Io.KnownBytes.{Consumes, IsAtEnd}
use Rattle.dmr_listing.specs.ListingRules as recording
use Rattle.dmr_listing.specs.OutgoingListings as outgoing
use Rattle.dmr_listing.specs.ReceivedListings as received
use Rattle.dmr_recording.specs.Recordings.{RecordedSlot}
use Rattle.dmr_listing.specs.declared.burst_line.BurstLine.{BurstLine}
use Rattle.dmr_recording.specs.declared.fault_line.FaultLine.{FaultLine}
use Rattle.dmr_recording.specs.declared.recording.Recording.{Recording}
use Rattle.dmr_recording.specs.declared.stop.Stop.{Stop}
use Rattle.dmr_recording.specs.declared.stop.Stop.TheVariants.{File, Output}
use Rattle.dmr_record.specs.Faults.{is_device_fault}
use Rattle.dmr_recording.specs.declared.recording.Recording.TheVariants as kind
use Rattle.dmr_listing.specs.declared.summary.RecordingSummary.{RecordingSummary}
use Rattle.dmr_record.specs.Head.{head_octets, magic_of, ShowsAnyHeadFault}
use Rattle.dmr_record.specs.Outgoing.{Sending}
use Rattle.dmr_record.specs.Received.{Receipt}
use Rattle.dmr_record.specs.declared.head.FileFormat.{FileFormat}
use Rattle.dmr_record.specs.declared.head.FileFormat.TheVariants.{Uplink, Downlink, Outgoing, Received}
use Rattle.dmr_lines.specs.Line.{PutsError}
use Rattle.dmr_lines.specs.Status.{failure}
use Rattle.dmr_show.specs.Printed.{HasLines, PutsLines, lines_around}
use Rattle.dmr_show.specs.Records.{Records, Slots, Sendings, Receipts}
use Rattle.dmr_show.specs.declared.file_listing.Shown.{Shown}
use Rattle.dmr_show.specs.declared.file_listing.Shown.TheVariants.{NoStrip, Whole}
use Rattle.dmr_show.specs.declared.file_summary.FileSummary.{FileSummary}
use Rattle.dmr_show.specs.declared.file_summary.FileSummary.TheVariants.{OfRecording, OfList}
use Rattle.dmr_show.specs.declared.filter.Filter.{Filter}
use Rattle.dmr_show.specs.declared.form.Form.{Form}
use Rattle.dmr_show.specs.declared.form.Form.TheVariants as form

-- These slots of a recording were read to its end behind its head, with the lines of its bursts, and the summary is theirs.
pub record IsRecordingRead (of : Recording) (slots : List RecordedSlot) (lines : List BurstLine) (summary : RecordingSummary)
    (left_old left_new : Option (List ℕ)) : Type 0 where
  pub end : recording.ListingTurn
  pub read : recording.IsRead of slots lines [] end left_old left_new
  pub frames : 2 * summary.frames ≡ length slots
  pub bursts : summary.bursts ≡ end.bursts

-- These records of an outgoing list were, and there are so many.
pub record IsOutgoingRead (sendings : List Sending) (count : ℕ) (left_old left_new : Option (List ℕ)) : Type 0 where
  pub read : outgoing.AreSendingsRead sendings [] left_old left_new
  pub many : count ≡ length sendings

-- These records of a received list were, and there are so many.
pub record IsReceivedRead (receipts : List Receipt) (count : ℕ) (left_old left_new : Option (List ℕ)) : Type 0 where
  pub read : received.AreReceiptsRead receipts [] left_old left_new
  pub many : count ≡ length receipts

-- the format of the file of a recording
abbrev pub format_of : Recording → FileFormat
format_of kind.Uplink = Uplink
format_of kind.Downlink = Downlink

-- All that stands behind the head of a file of this format was read: it is this, and this is its summary.
abbrev pub IsFileRead : FileFormat → Records → FileSummary → Option (List ℕ) → Option (List ℕ) → Type 0
IsFileRead Uplink (Slots slots lines) (OfRecording summary) old new = IsRecordingRead kind.Uplink slots lines summary old new
IsFileRead Downlink (Slots slots lines) (OfRecording summary) old new = IsRecordingRead kind.Downlink slots lines summary old new
IsFileRead Outgoing (Sendings sendings) (OfList count) old new = IsOutgoingRead sendings count old new
IsFileRead Received (Receipts receipts) (OfList count) old new = IsReceivedRead receipts count old new
IsFileRead format records summary old new = ⊥

-- What stands behind the head of a file of this format was read up to a record that shows this fault.
abbrev pub IsFileReadUpToFault : FileFormat → Records → FaultLine → Option (List ℕ) → Option (List ℕ) → Type 0
IsFileReadUpToFault Uplink (Slots slots lines) fault old new = recording.IsReadUpToFault kind.Uplink slots lines fault old new
IsFileReadUpToFault Downlink (Slots slots lines) fault old new = recording.IsReadUpToFault kind.Downlink slots lines fault old new
IsFileReadUpToFault Outgoing (Sendings sendings) fault old new = outgoing.AreSendingsReadUpToFault sendings fault old new
IsFileReadUpToFault Received (Receipts receipts) fault old new = received.AreReceiptsReadUpToFault receipts fault old new
IsFileReadUpToFault format records fault old new = ⊥

-- A file of one of the formats was read whole, head and all: this stands behind its head.
pub record IsWhole (records : Records) (summary : FileSummary) (left_old left_new : Option (List ℕ)) : Type 0 where
  pub format : FileFormat
  pub behind : Option (List ℕ)
  pub head : Consumes left_old behind (head_octets (magic_of format))
  pub rest : IsFileRead format records summary behind left_new
  pub end : IsAtEnd left_new

-- The fault is one of the head, which begins at octet 0 and in no slot.
pub record IsHeadFault (fault : FaultLine) (left_old left_new : Option (List ℕ)) : Type 0 where
  pub taken : List ℕ
  pub read : Consumes left_old left_new taken
  pub shown : ShowsAnyHeadFault fault.fault taken
  pub octet : fault.octet ≡ 0
  pub place : fault.place ≡ None

-- The fault is one behind the head, and behind this.
pub record IsRecordFault (records : Records) (fault : FaultLine) (left_old left_new : Option (List ℕ)) : Type 0 where
  pub format : FileFormat
  pub behind : Option (List ℕ)
  pub head : Consumes left_old behind (head_octets (magic_of format))
  pub rest : IsFileReadUpToFault format records fault behind left_new

-- What stands behind the head of a file of this format was read, and its lines in a form were put, between so many before them and
-- so many behind.
pub record IsRestShown (form : Form) (filter : Filter) (format : FileFormat) (summary : FileSummary) (before behind : ℕ)
    (left_old left_new held_old held_new : Option (List ℕ)) : Type 0 where
  pub records : Records
  pub read : IsFileRead format records summary left_old left_new
  pub count : ℕ
  pub lines : HasLines form filter records count
  pub put : PutsLines (before + count + behind) held_old held_new

-- It was read up to a record that shows this fault, and the lines of what stands before that were put, behind so many others.
pub record IsRestShownUpToFault (form : Form) (filter : Filter) (format : FileFormat) (fault : FaultLine) (before : ℕ)
    (left_old left_new held_old held_new : Option (List ℕ)) : Type 0 where
  pub records : Records
  pub read : IsFileReadUpToFault format records fault left_old left_new
  pub count : ℕ
  pub lines : HasLines form filter records count
  pub put : PutsLines (before + count) held_old held_new

-- A file was read whole, and the first sink holds the lines that it has in a form, as far as the filter lets them pass: one for the
-- file, those of its bursts, records or strips, and one for all that it holds; a strip has neither the first nor the last.
pub record IsShownWhole (form : Form) (filter : Filter) (left_old left_new held_old held_new : Option (List ℕ)) : Type 0 where
  pub records : Records
  pub summary : FileSummary
  pub whole : IsWhole records summary left_old left_new
  pub count : ℕ
  pub lines : HasLines form filter records count
  pub put : PutsLines (lines_around form + count + lines_around form) held_old held_new

-- A file was read up to a record that shows this fault, and the first sink holds one line for the file and those of what stands
-- before that record, in a form and as far as the filter lets them pass; a strip has no line for the file.
pub record IsShownUpToFault (form : Form) (filter : Filter) (fault : FaultLine)
    (left_old left_new held_old held_new : Option (List ℕ)) : Type 0 where
  pub records : Records
  pub read : IsRecordFault records fault left_old left_new
  pub count : ℕ
  pub lines : HasLines form filter records count
  pub put : PutsLines (lines_around form + count) held_old held_new

-- The head of a file shows this fault, and no line was put.
pub record IsHeadFaultAlone (fault : FaultLine) (left_old left_new held_old held_new : Option (List ℕ)) : Type 0 where
  pub head : IsHeadFault fault left_old left_new
  pub put : PutsLines 0 held_old held_new

-- The file is at fault: in its head, or behind it.
abbrev pub IsAtFault : Form → Filter → FaultLine → (left_old left_new held_old held_new : Option (List ℕ)) → Type 0
IsAtFault form filter fault left_old left_new held_old held_new =
    IsHeadFaultAlone fault left_old left_new held_old held_new
    ⊎ IsShownUpToFault form filter fault left_old left_new held_old held_new

-- Which device has failed where a listing ended early: the source, where that is the fault of the file, or the sink, where a line
-- couldn't be put.
abbrev pub HaveFailedAt : Stop → (source sink : Bool) → Type 0
HaveFailedAt (File fault) source sink = (source ≡ is_device_fault fault.fault) × (sink ≡ false)
HaveFailedAt Output source sink = sink ≡ true

-- Which device has failed, by how a listing ended: no sink where it ended well.
abbrev pub HaveFailed : {T : Type 0} → Result T Stop → (source sink : Bool) → Type 0
HaveFailed (Ok x) source sink = sink ≡ false
HaveFailed (Err e) source sink = HaveFailedAt e source sink

-- A fault is told: behind what is listed, a line of error goes to the other sink.
pub record TellsFault (status : ℕ) (out_failed err_failed : Bool) (held_old held_new : Option (List ℕ)) : Type 0 where
  pub ends : status ≡ failure
  pub listed : out_failed ≡ false
  pub line : err_failed ≡ false → PutsError held_old held_new

-- a list has no strip
abbrev pub has_strip : FileFormat → Bool
has_strip Uplink = true
has_strip Downlink = true
has_strip Outgoing = false
has_strip Received = false

-- The head of a file is that of one that has a strip, or that of one that has none.
abbrev pub BeginsWithStrip : Bool → Option (List ℕ) → Type 0
BeginsWithStrip is_so left =
    (format : FileFormat) × (behind : Option (List ℕ)) × Consumes left behind (head_octets (magic_of format))
    × (has_strip format ≡ is_so)

-- A list has no strip, and no line of it was put.
pub record IsWithoutStrip (asked : Form) (left held_old held_new : Option (List ℕ)) : Type 0 where
  pub strip : asked ≡ form.Strip
  pub list : BeginsWithStrip false left
  pub put : PutsLines 0 held_old held_new

-- There was no memory: nothing was read, and nothing put.
pub record IsUntouched (left_old left_new held_old held_new : Option (List ℕ)) : Type 0 where
  pub read : left_new ≡ left_old
  pub put : held_new ≡ held_old

-- A file wasn't shown whole: there was no memory, it is a list, which has no strip, or it is at fault, and shown up to that.
abbrev pub IsShownInPart : Form → Filter → (left_old left_new held_old held_new : Option (List ℕ)) → Type 0
IsShownInPart form filter left_old left_new held_old held_new =
    IsUntouched left_old left_new held_old held_new
    ⊎ (IsWithoutStrip form left_old held_old held_new
    ⊎ ((fault : FaultLine) × IsAtFault form filter fault left_old left_new held_old held_new))

-- What is shown of a file, by how that ended: all of it; nothing, since a list has no strip; or what stands before a fault. Where a
-- line couldn't be put, nothing is said.
abbrev pub IsShown : Form → Filter → Result Shown Stop → (left_old left_new held_old held_new : Option (List ℕ)) → Type 0
IsShown asked filter (Ok Whole) left_old left_new held_old held_new =
    IsShownWhole asked filter left_old left_new held_old held_new × (asked ≡ form.Strip → BeginsWithStrip true left_old)
IsShown asked filter (Ok NoStrip) left_old left_new held_old held_new = IsWithoutStrip asked left_old held_old held_new
IsShown asked filter (Err (File fault)) left_old left_new held_old held_new =
    IsAtFault asked filter fault left_old left_new held_old held_new
IsShown asked filter (Err Output) left_old left_new held_old held_new = Unit {0}
