-- The numbers that stand for statuses, formats and faults.
use Rattle.std.specs.Prelude.{ℕ, ◌==◌, Option, Some, None, if◌then◌else◌, unwrap_or}
use Rattle.dmr_record.specs.declared.fault.RecordFault.{RecordFault}
use Rattle.dmr_record.specs.declared.fault.RecordFault.TheVariants.{Magic, Version, CutRecord, BadTag, HalfFrame, FrameOrder}
use Rattle.dmr_record.specs.declared.fault.RecordFault.TheVariants.{TooLong, Read, Write}
use Rattle.dmr_record.specs.declared.head.FileFormat.{FileFormat}
use Rattle.dmr_record.specs.declared.head.FileFormat.TheVariants.{Uplink, Downlink, Outgoing, Received}
use Rattle.dmr_recording.specs.declared.fault_line.FaultLine.{FaultLine}
use Rattle.dmr_recording.specs.declared.place.Place.{Place}
use Rattle.dmr_web.specs.declared.numbers.Told.{Told}

-- all was listed, up to the end
abbrev pub all_listed : ℕ
all_listed = 0

-- all was listed, up to a fault
abbrev pub fault_met : ℕ
fault_met = 1

-- there was no room for one line more
abbrev pub text_full : ℕ
text_full = 2

-- nothing was listed
abbrev pub not_listed : ℕ
not_listed = 3

abbrev pub format_number : FileFormat → ℕ
format_number Uplink = 1
format_number Downlink = 2
format_number Outgoing = 3
format_number Received = 4

abbrev pub numbered_format : ℕ → Option FileFormat
numbered_format number =
    if number == 1 then Some Uplink else
    if number == 2 then Some Downlink else
    if number == 3 then Some Outgoing else
    if number == 4 then Some Received else
    None

abbrev pub fault_number : RecordFault → ℕ
fault_number Magic = 1
fault_number Version = 2
fault_number CutRecord = 3
fault_number BadTag = 4
fault_number HalfFrame = 5
fault_number FrameOrder = 6
fault_number TooLong = 7
fault_number Read = 8
fault_number Write = 9

-- where a fault is that has no slot
abbrev pub no_place : Place
no_place = record { frame = 0; slot = 0 }

-- what is told of a text of so many octets, behind so many bursts or records
abbrev pub told_text : ℕ → ℕ → Told
told_text length next = record { length = length; format = 0; next = next; fault = 0; octet = 0; frame = 0; slot = 0 }

-- the same with a fault: which it is, where its record begins, and the frame and the slot of that
abbrev pub told_fault : FaultLine → Told → Told
told_fault fault told = record told {
  fault = fault_number fault.fault;
  octet = fault.octet;
  frame = (unwrap_or fault.place no_place).frame;
  slot = (unwrap_or fault.place no_place).slot;
}
