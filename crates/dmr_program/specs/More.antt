-- What more can be told of how a run ended.
use Rattle.std.specs.Prelude.{◌==◌, Bool, true, false, if◌then◌else◌, Option, Some, None, Result, Ok, Err}
use Rattle.dmr_record.specs.declared.fault.RecordFault.{RecordFault}
use Rattle.dmr_record.specs.declared.fault.RecordFault.TheVariants.{Read, Write}
use Rattle.dmr_record.specs.declared.head.FileFormat.{FileFormat}
use Rattle.dmr_record.specs.declared.head.FileFormat.TheVariants as format
use Rattle.dmr_repeater.specs.declared.fault.RunFault.{RunFault}
use Rattle.dmr_repeater.specs.declared.fault.RunFault.TheVariants.{File, Memory}
use Rattle.dmr_repeater.specs.declared.fault.Stream.{Stream}
use Rattle.dmr_repeater.specs.declared.fault.Stream.TheVariants.{Uplink, Outgoing, Downlink, Received}
use Rattle.dmr_repeater.specs.declared.summary.Summary.{Summary}
use Rattle.dmr_watch.specs.Reached.{fault_line_of}
use Rattle.dmr_program.specs.declared.more.More.{More}
use Rattle.dmr_program.specs.declared.more.More.TheVariants as more
use Rattle.dmr_program.specs.declared.more.Passed.{Passed}
use Rattle.dmr_program.specs.declared.more.Watched.{Watched}

-- the format of a file of a run
abbrev pub stream_format : Stream → FileFormat
stream_format Uplink = format.Uplink
stream_format Outgoing = format.Outgoing
stream_format Downlink = format.Downlink
stream_format Received = format.Received

-- what was watched of a file
abbrev pub passed_of : Watched → Stream → Passed
passed_of watched Uplink = watched.uplink
passed_of watched Outgoing = watched.outgoing
passed_of watched Downlink = watched.downlink
passed_of watched Received = watched.received

-- the system has a reason for a fault: a read or a write failed
abbrev pub is_of_device : RecordFault → Bool
is_of_device Read = true
is_of_device Write = true
is_of_device fault = false

-- a fault of a file, where that has got to, with the error of the call that failed
abbrev pub place_of_fault : Watched → Stream → RecordFault → More
place_of_fault watched stream fault = more.Fault stream
    (fault_line_of (stream_format stream) (passed_of watched stream).reached fault)
    (if is_of_device fault then (passed_of watched stream).error else None)

-- Of a run that was done more is told where it repeated nothing: what was heard. Of one that met a fault of a file, the place of
-- the fault is told.
abbrev pub more_of : Watched → Result Summary RunFault → Option More
more_of watched (Ok summary) = if summary.repeated == 0 then Some (more.Heard watched.heard) else None
more_of watched (Err (File stream fault)) = Some (place_of_fault watched stream fault)
more_of watched (Err Memory) = None
