-- What one piece of a capture turned out to be.
use Rattle.std.specs.Prelude.{ℕ, ◌<◌, List, [], ◌∷◌}
use Rattle.dmr_capture.specs.State.{CapturedPacket, interface_limit, captured_packet}
use Rattle.dmr_capture.specs.declared.block.Block.{Block}
use Rattle.dmr_capture.specs.declared.block.Block.TheVariants.{NewInterface}
use Rattle.dmr_capture.specs.declared.capture.Found.{Found}
use Rattle.dmr_capture.specs.declared.capture.Found.TheVariants as what
use Rattle.dmr_capture.specs.declared.fault.CaptureFault.{CaptureFault}
use Rattle.dmr_capture.specs.declared.fault.CaptureFault.TheVariants.{BadBlock, ManyInterfaces, LinkType, TooLong}
use Rattle.dmr_capture.specs.declared.packet.Packet.{Packet}

-- something holds of the packet, where the piece holds one
abbrev pub IsFound : Found → (Packet → Type 0) → Type 0
IsFound (what.Captured packet) Holds = Holds packet
IsFound _ Holds = Unit {0}

-- something holds where it holds none
abbrev pub IfPassed : Found → Type 0 → Type 0
IfPassed what.Passed holds = holds
IfPassed _ holds = Unit {0}

-- something holds where there was no piece
abbrev pub IfEnd : Found → Type 0 → Type 0
IfEnd what.End holds = holds
IfEnd _ holds = Unit {0}

-- something holds where there was one
abbrev pub IfOnwards : Found → Type 0 → Type 0
IfOnwards what.End holds = Unit {0}
IfOnwards _ holds = holds

-- the packets that it holds, with these octets
abbrev pub found_packets : Found → List ℕ → List CapturedPacket
found_packets (what.Captured packet) octets = captured_packet packet octets ∷ []
found_packets _ octets = []

-- A section has room for one more interface, where a block describes one.
abbrev pub IsWithinRoom : Block → ℕ → Type 0
IsWithinRoom (NewInterface link) count = count < interface_limit
IsWithinRoom _ count = Unit {0}

-- a fault is of the octets that were judged, and neither of the end nor of the device
abbrev pub IsOfText : CaptureFault → Type 0
IsOfText (BadBlock octet) = Unit {0}
IsOfText (ManyInterfaces octet) = Unit {0}
IsOfText (LinkType link) = Unit {0}
IsOfText (TooLong octet) = Unit {0}
IsOfText _ = ⊥
