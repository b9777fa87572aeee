-- Why going through a capture stopped.
use Rattle.dmr_capture.specs.declared.fault.CaptureFault.{CaptureFault}
use Rattle.dmr_datagrams.specs.declared.import.Halt.{Halt}
use Rattle.dmr_datagrams.specs.declared.import.Halt.TheVariants.{Capture, Output}

-- something holds of the fault, where the capture is at fault
abbrev pub IfCapture : Halt → (CaptureFault → Type 0) → Type 0
IfCapture (Capture fault) Holds = Holds fault
IfCapture Output Holds = Unit {0}

-- something holds where what was made of a packet could not be given
abbrev pub IfListNotGiven : Halt → Type 0 → Type 0
IfListNotGiven (Capture fault) holds = Unit {0}
IfListNotGiven Output holds = holds
