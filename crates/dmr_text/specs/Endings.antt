-- Why a text wasn't written to its end.
use Rattle.dmr_recording.specs.declared.fault_line.FaultLine.{FaultLine}
use Rattle.dmr_text.specs.declared.export.ExportEnd.{ExportEnd}
use Rattle.dmr_text.specs.declared.export.ExportEnd.TheVariants as why

-- something holds of the fault, where the file is at fault
abbrev pub IfAtFault : ExportEnd → (FaultLine → Type 0) → Type 0
IfAtFault (why.File fault) Holds = Holds fault
IfAtFault _ Holds = Unit {0}

-- something holds where the text could not be written
abbrev pub IfUnwritten : ExportEnd → Type 0 → Type 0
IfUnwritten why.Output holds = holds
IfUnwritten _ holds = Unit {0}

-- something holds where there was no memory
abbrev pub IfMemory : ExportEnd → Type 0 → Type 0
IfMemory why.Memory holds = holds
IfMemory _ holds = Unit {0}
