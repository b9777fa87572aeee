-- Where the line is printed that a request ends with.
use Rattle.std.specs.Prelude.{Bool, false}
use Rattle.dmr_command.specs.Places.{is_standard_if_any, take_output}
use Rattle.dmr_command.specs.declared.places.Places.{Places}
use Rattle.dmr_command.specs.declared.request.Request.{Request}
use Rattle.dmr_command.specs.declared.request.Request.TheVariants.{Run, Slot}
use Rattle.dmr_files.specs.Place.{is_standard}
use Rattle.dmr_repeater.specs.declared.fault.Stream.{Stream}
use Rattle.dmr_repeater.specs.declared.fault.Stream.TheVariants.{Downlink, Received}

-- A file of the run that is asked for goes to standard output, so that no line does.
abbrev pub is_beside : Request → Bool
is_beside (Run config places is_verbose) = take_output places
is_beside request = false

-- More is to be told of how the run ends that is asked for.
abbrev pub tells_more : Request → Bool
tells_more (Run config places is_verbose) = is_verbose
tells_more request = false

-- This output of a run is standard output.
abbrev pub is_sent_out : Places → Stream → Bool
is_sent_out places Downlink = is_standard places.downlink
is_sent_out places Received = is_standard_if_any places.received
is_sent_out places stream = false

-- Something is to be done here: no command of another program, and no run two files of which would be one stream.
abbrev pub IsDoneHere : Request → Type 0
IsDoneHere (Slot burst) = Unit {0}
IsDoneHere (Run config places is_verbose) = Unit {0}
IsDoneHere request = ⊥
