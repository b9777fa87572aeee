-- What a reader remembers of a capture.
use Rattle.std.specs.Prelude.{ℕ, ◌^◌, List, []}
use Rattle.dmr_capture.specs.declared.capture.Format.{Format}
use Rattle.dmr_capture.specs.declared.capture.Format.TheVariants.{Pcapng}
use Rattle.dmr_capture.specs.declared.interface.Interface.{Interface}
use Rattle.dmr_capture.specs.declared.link.Link.{Link}
use Rattle.dmr_capture.specs.declared.order.Order.{Order}
use Rattle.dmr_capture.specs.declared.order.Order.TheVariants.{Big}
use Rattle.dmr_capture.specs.declared.packet.Packet.{Packet}

-- A packet of a capture: where its record or block begins, what stands in front of its datagram, when it came, in nanoseconds, and
-- its octets.
pub record CapturedPacket : Type 0 where
  pub octet : ℕ
  pub link : Link
  pub time : ℕ
  pub octets : List ℕ

-- the packet that was read, where these are its octets
abbrev pub captured_packet : Packet → List ℕ → CapturedPacket
captured_packet p octets = record { octet = p.octet; link = p.link; time = p.time; octets = octets }

-- What a reader remembers: which capture it is, in which order its numbers stand, the interfaces of the section of a pcapng, and
-- how many octets were read.
pub record CaptureState : Type 0 where
  pub format : Format
  pub order : Order
  pub interfaces : List Interface
  pub octet : ℕ

-- in front of a pcapng
abbrev pub fresh_pcapng : CaptureState
fresh_pcapng = record { format = Pcapng; order = Big; interfaces = []; octet = 0 }

-- how many octets of a packet a capture has at most
abbrev pub packet_limit : ℕ
packet_limit = 262144

-- how many interfaces a section has at most
abbrev pub interface_limit : ℕ
interface_limit = 256

-- how many octets may stand in front of a record or a block
abbrev pub octet_limit : ℕ
octet_limit = 2 ^ 62
