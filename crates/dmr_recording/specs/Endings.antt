-- Why a listing stopped.
use Rattle.dmr_recording.specs.declared.fault_line.FaultLine.{FaultLine}
use Rattle.dmr_recording.specs.declared.stop.Stop.{Stop}
use Rattle.dmr_recording.specs.declared.stop.Stop.TheVariants.{File, Output}

-- something holds of the fault, where the file is at fault
abbrev pub IfFile : Stop → (FaultLine → Type 0) → Type 0
IfFile (File fault) Holds = Holds fault
IfFile Output Holds = Unit {0}

-- something holds where a line could not be given
abbrev pub IfNotWritten : Stop → Type 0 → Type 0
IfNotWritten (File fault) holds = Unit {0}
IfNotWritten Output holds = holds
