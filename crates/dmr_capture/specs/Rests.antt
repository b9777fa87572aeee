-- What stands behind the first octets of a block, and shows a fault.
use Rattle.std.specs.Prelude.{◌≡◌, ℕ, ◌+◌, ◌<◌, List, length}
use Rattle.dmr_capture.specs.Blocks.{IsBadRest}
use Rattle.dmr_capture.specs.declared.block.BlockHead.{BlockHead}
use Rattle.dmr_capture.specs.declared.fault.CaptureFault.{CaptureFault}
use Rattle.dmr_capture.specs.declared.fault.CaptureFault.TheVariants.{CutBlock, BadBlock, Read}

-- These octets behind the first ones of a block that begins at this octet show this fault.
abbrev pub ShowsRestFault : ℕ → BlockHead → CaptureFault → List ℕ → Type 0
ShowsRestFault at b (CutBlock octet) rest = (octet ≡ at) × (b.head + length rest < b.len)
ShowsRestFault at b (Read octet) rest = (octet ≡ at) × (b.head + length rest < b.len)
ShowsRestFault at b (BadBlock octet) rest = (octet ≡ at) × IsBadRest b rest
ShowsRestFault at b fault rest = ⊥
