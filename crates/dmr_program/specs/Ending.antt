-- How runs over files end.
use Rattle.std.specs.Prelude.{◌≡◌, List, length}
use Rattle.dmr_record.specs.Outgoing.{Sending}
use Rattle.dmr_record.specs.declared.fault.RecordFault.TheVariants.{Read}
use Rattle.dmr_repeater.specs.Causes.{IfOutgoing}
use Rattle.dmr_repeater.specs.Runs.{from_frame}
use Rattle.dmr_repeater.specs.declared.fault.RunFault.{RunFault}
use Rattle.dmr_repeater.specs.declared.summary.Summary.{Summary}
use Rattle.dmr_program.specs.declared.run_end.RunEnd.{RunEnd}
use Rattle.dmr_program.specs.declared.run_end.RunEnd.TheVariants.{Done, Fault, Setting, Terminal}
use Rattle.dmr_repeater.specs.declared.fault.Stream.{Stream}

-- where a run came to the end of its files, this holds of its numbers
abbrev pub IfDone : RunEnd → (Summary → Type 0) → Type 0
IfDone (Done summary) P = P summary
IfDone _ P = Unit {0}

-- where a run met a fault, this holds of it
abbrev pub IfFault : RunEnd → (RunFault → Type 0) → Type 0
IfFault (Fault fault) P = P fault
IfFault _ P = Unit {0}

-- the settings were refused
abbrev pub IsRefused : RunEnd → Type 0
IsRefused (Setting fault) = Unit {0}
IsRefused _ = ⊥

-- where a file was to be sent to a terminal, this holds of it
abbrev pub IfTerminal : RunEnd → (Stream → Type 0) → Type 0
IfTerminal (Terminal stream) P = P stream
IfTerminal _ P = Unit {0}

-- How a run ends over an outgoing list of these records, no more than may be and in their order. Where it was done, those of frames
-- that it hasn't are counted as not offered. Where it met a fault of the list, a read of it failed.
abbrev pub EndsOver : List Sending → RunEnd → Type 0
EndsOver sendings (Done summary) = summary.unoffered ≡ length (from_frame summary.frames sendings)
EndsOver sendings (Fault fault) = IfOutgoing fault (λ shown. shown ≡ Read)
EndsOver sendings _ = Unit {0}
