-- Why a packet couldn't be held, and why going through a capture stopped.
use Rattle.dmr_capture.specs.declared.fault.CaptureFault.{CaptureFault}
use Rattle.dmr_dmrd.specs.declared.held.Refused.{Refused}
use Rattle.dmr_dmrd.specs.declared.held.Refused.TheVariants as refused
use Rattle.dmr_dmrd.specs.declared.import.Halt.{Halt}
use Rattle.dmr_dmrd.specs.declared.import.Halt.TheVariants as halt

-- something holds where the packet asks for a frame past the limit
abbrev pub IfPastLimit : Refused → Type 0 → Type 0
IfPastLimit refused.Past holds = holds
IfPastLimit refused.Memory holds = Unit {0}

-- something holds of the fault, where the capture is at fault
abbrev pub IfStoppedAtFault : Halt → (CaptureFault → Type 0) → Type 0
IfStoppedAtFault (halt.Capture fault) Holds = Holds fault
IfStoppedAtFault halt.Memory Holds = Unit {0}
