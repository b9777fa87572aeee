-- Why a file wasn't written to its end.
use Rattle.std.specs.Prelude.{◌≡◌}
use Rattle.dmr_capture.specs.declared.fault.CaptureFault.{CaptureFault}
use Rattle.dmr_recording.specs.declared.fault_line.FaultLine.{FaultLine}
use Rattle.dmr_datagrams.specs.declared.ends.ExportEnd.{ExportEnd}
use Rattle.dmr_datagrams.specs.declared.ends.ExportEnd.TheVariants as export
use Rattle.dmr_datagrams.specs.declared.ends.ImportEnd.{ImportEnd}
use Rattle.dmr_datagrams.specs.declared.ends.ImportEnd.TheVariants as import

-- something holds of the fault, where the list is at fault
abbrev pub IfListAtFault : ExportEnd → (FaultLine → Type 0) → Type 0
IfListAtFault (export.File fault) Holds = Holds fault
IfListAtFault _ Holds = Unit {0}

-- something holds where the capture could not be written
abbrev pub IfCaptureUnwritten : ExportEnd → Type 0 → Type 0
IfCaptureUnwritten export.Output holds = holds
IfCaptureUnwritten _ holds = Unit {0}

-- something holds where there was no memory
abbrev pub IfExportMemory : ExportEnd → Type 0 → Type 0
IfExportMemory export.Memory holds = holds
IfExportMemory _ holds = Unit {0}

-- something holds of the fault, where the capture is at fault
abbrev pub IfCaptureAtFault : ImportEnd → (CaptureFault → Type 0) → Type 0
IfCaptureAtFault (import.Capture fault) Holds = Holds fault
IfCaptureAtFault _ Holds = Unit {0}

-- something holds where the list could not be written
abbrev pub IfListUnwritten : ImportEnd → Type 0 → Type 0
IfListUnwritten import.Output holds = holds
IfListUnwritten _ holds = Unit {0}

-- something holds where there was no memory
abbrev pub IfImportMemory : ImportEnd → Type 0 → Type 0
IfImportMemory import.Memory holds = holds
IfImportMemory _ holds = Unit {0}

-- Nothing was read, and nothing written.
pub record IsNothingCarried {S K : Type 0} (source source' : S) (sink sink' : K) : Type 0 where
  pub read : source' ≡ source
  pub written : sink' ≡ sink
