-- Why no recording was made of a capture.
use Rattle.dmr_capture.specs.declared.fault.CaptureFault.{CaptureFault}
use Rattle.dmr_dmrd.specs.declared.counts.ImportEnd.{ImportEnd}
use Rattle.dmr_dmrd.specs.declared.counts.ImportEnd.TheVariants as import

-- something holds of the fault, where the capture is at fault
abbrev pub IfHotspotFault : ImportEnd → (CaptureFault → Type 0) → Type 0
IfHotspotFault (import.Capture fault) Holds = Holds fault
IfHotspotFault _ Holds = Unit {0}

-- something holds where the recording could not be written
abbrev pub IfUnrecorded : ImportEnd → Type 0 → Type 0
IfUnrecorded import.Output holds = holds
IfUnrecorded _ holds = Unit {0}

-- something holds where there was no memory
abbrev pub IfUnheld : ImportEnd → Type 0 → Type 0
IfUnheld import.Memory holds = holds
IfUnheld _ holds = Unit {0}
