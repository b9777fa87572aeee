-- Further tries, and the packets that they try.
use Rattle.std.specs.Prelude.{ℕ, ◌==◌, nat_le, List, length, Option, Some, None, if◌then◌else◌}
use Rattle.std.specs.List.{list_any}
use Rattle.dmr_script.specs.declared.fault.Refusal.{Refusal}
use Rattle.dmr_script.specs.declared.fault.Refusal.TheVariants as refusal
use Rattle.dmr_script.specs.declared.packet.Again.{Again}
use Rattle.dmr_script.specs.declared.packet.Again.TheVariants as again
use Rattle.dmr_script.specs.declared.packet.PacketTry.{PacketTry}
use Rattle.dmr_script.specs.declared.statement.Transmission.{Transmission}
use Rattle.dmr_script.specs.declared.statement.Transmission.TheVariants as said

-- a shape has another number of blocks than the packet
abbrev pub count_fault : (shape packet : ℕ) → Option Refusal
count_fault shape packet = if shape == packet then None else Some (refusal.BlockCount shape packet)

-- a block isn't among those of a packet with so many
abbrev pub serial_fault : ℕ → List ℕ → Option Refusal
serial_fault blocks serials = if list_any (λ serial. nat_le blocks serial) serials then Some refusal.BlockPastPacket else None

-- why a further try doesn't fit the packet
abbrev pub again_fault : PacketTry → Again → Option Refusal
again_fault p (again.Full None) = None
again_fault p (again.Full (Some shape)) = count_fault (length shape.blocks.items) (length p.shape.blocks.items)
again_fault p (again.Partial partial) = serial_fault (length p.shape.blocks.items) partial.serials.items

-- Why a transmission has nothing to try again, or doesn't fit it. This is the last confirmed packet in front of it in its slot.
abbrev pub try_fault : Transmission → Option PacketTry → Option Refusal
try_fault (said.Again a) None = Some refusal.NothingToTryAgain
try_fault (said.Again a) (Some p) = again_fault p a
try_fault _ last = None
