-- Why a file wasn't written to its end.
use Rattle.dmr_text.specs.declared.fault.LineFault.{LineFault}
use Rattle.dmr_text.specs.declared.import.ImportEnd.{ImportEnd}
use Rattle.dmr_text.specs.declared.import.ImportEnd.TheVariants as why

-- something holds of the fault, where the text is at fault
abbrev pub IfTextAtFault : ImportEnd → (LineFault → Type 0) → Type 0
IfTextAtFault (why.Text fault) Holds = Holds fault
IfTextAtFault _ Holds = Unit {0}

-- something holds where the file could not be written
abbrev pub IfFileOutput : ImportEnd → Type 0 → Type 0
IfFileOutput why.Output holds = holds
IfFileOutput _ holds = Unit {0}

-- something holds where there was no memory
abbrev pub IfNoMemory : ImportEnd → Type 0 → Type 0
IfNoMemory why.Memory holds = holds
IfNoMemory _ holds = Unit {0}
