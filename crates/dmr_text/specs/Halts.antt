-- Why going through a text stopped.
use Rattle.dmr_text.specs.declared.fault.LineFault.{LineFault}
use Rattle.dmr_text.specs.declared.fault.Halt.{Halt}
use Rattle.dmr_text.specs.declared.fault.Halt.TheVariants.{Text, Output}

-- something holds of the fault, where the text is at fault
abbrev pub IfText : Halt → (LineFault → Type 0) → Type 0
IfText (Text fault) Holds = Holds fault
IfText Output Holds = Unit {0}

-- something holds where what was made of a line could not be given
abbrev pub IfNotGiven : Halt → Type 0 → Type 0
IfNotGiven (Text fault) holds = Unit {0}
IfNotGiven Output holds = holds
