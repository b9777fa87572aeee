-- The fault of a capture of which octets didn't come.
use Rattle.std.specs.Prelude.{ℕ}
use Rattle.dmr_capture.specs.declared.fault.CaptureFault.{CaptureFault}
use Rattle.dmr_capture.specs.declared.fault.CaptureFault.TheVariants.{CutHead, CutPacket, CutBlock, Read}
use Rattle.dmr_capture.specs.declared.transfer.Cut.{Cut}
use Rattle.dmr_capture.specs.declared.transfer.Cut.TheVariants.{End, Device}

-- in the head of a pcap
abbrev pub cut_head_fault : Cut → CaptureFault
cut_head_fault End = CutHead
cut_head_fault Device = Read 0

-- in a record that begins at this octet
abbrev pub cut_packet_fault : Cut → ℕ → CaptureFault
cut_packet_fault End octet = CutPacket octet
cut_packet_fault Device octet = Read octet

-- in a block that begins at this octet
abbrev pub cut_block_fault : Cut → ℕ → CaptureFault
cut_block_fault End octet = CutBlock octet
cut_block_fault Device octet = Read octet
