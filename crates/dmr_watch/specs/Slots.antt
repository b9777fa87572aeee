-- Where the octets of a recording lead to, slot by slot.
use Rattle.std.specs.Prelude.{◌++◌, ℕ, List, Some, length}
use Rattle.std.specs.List.{flat_map}
use Rattle.dmr_record.specs.Head.{head_octets}
use Rattle.dmr_record.specs.declared.fault.RecordFault.{RecordFault}
use Rattle.dmr_record.specs.declared.head.FileFormat.{FileFormat}
use Rattle.dmr_record.specs.declared.head.FileFormat.TheVariants as file
use Rattle.dmr_recording.specs.Places.{octet_behind, place_by_number}
use Rattle.dmr_recording.specs.Recordings.{RecordedSlot, spelling}
use Rattle.dmr_recording.specs.declared.fault_line.FaultLine.{FaultLine}
use Rattle.dmr_recording.specs.declared.recording.Recording.{Recording}
use Rattle.dmr_recording.specs.declared.recording.Recording.TheVariants.{Uplink, Downlink}
use Rattle.dmr_watch.specs.Reached.{fault_line_of, nothing, reached_by}

-- the format of the file of a recording
abbrev pub format_of_recording : Recording → FileFormat
format_of_recording Uplink = file.Uplink
format_of_recording Downlink = file.Downlink

-- A fault of the slot that comes behind these: where its record begins, and which slot it is.
abbrev pub fault_behind : Recording → List RecordedSlot → RecordFault → FaultLine
fault_behind recording slots fault = record {
  fault = fault;
  octet = octet_behind (spelling recording) slots;
  place = Some (place_by_number (length slots));
}

-- How a fault is told where the octets of a recording end in this part, behind a head of this magic and these slots.
abbrev pub fault_told : Recording → List ℕ → List RecordedSlot → List ℕ → RecordFault → FaultLine
fault_told recording magic slots part fault = fault_line_of (format_of_recording recording)
    (reached_by (format_of_recording recording) nothing (head_octets magic ++ (flat_map (spelling recording) slots ++ part))) fault
