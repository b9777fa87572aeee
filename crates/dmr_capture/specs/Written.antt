-- A capture that is written: a pcap of IPv4 packets.
use Rattle.std.specs.Prelude.{ℕ, ◌+◌, ◌*◌, ◌/◌, ◌%◌, ◌^◌, ◌<◌, List, [], ◌∷◌, ◌++◌, length}
use Rattle.std.specs.List.{flat_map}
use Rattle.byteorder.specs.Endian.{little_bytes}
use Rattle.dmr_capture.specs.State.{CapturedPacket}
use Rattle.dmr_capture.specs.declared.link.Link.TheVariants.{Ipv4}

-- The head: the number A1B2C3D4, the version 2.4, two zeros, the length to which packets are kept, and the link type 228, the
-- lowest octet first.
abbrev pub written_head : List ℕ
written_head =
    0xD4 ∷ 0xC3 ∷ 0xB2 ∷ 0xA1 ∷ 2 ∷ 0 ∷ 4 ∷ 0 ∷ 0 ∷ 0 ∷ 0 ∷ 0 ∷ 0 ∷ 0 ∷ 0 ∷ 0 ∷ 0xFF ∷ 0xFF ∷ 0 ∷ 0 ∷ 0xE4 ∷ 0 ∷ 0 ∷ 0 ∷ []

-- what stands in a record in front of a packet of so many octets: its seconds and microseconds, and twice how many octets it has
abbrev pub written_record_head : ℕ → ℕ → ℕ → List ℕ
written_record_head seconds microseconds count =
    little_bytes 4 seconds ++ little_bytes 4 microseconds ++ little_bytes 4 count ++ little_bytes 4 count

-- the record of a packet, by its time in microseconds
abbrev pub written_record : ℕ → List ℕ → List ℕ
written_record time octets =
    written_record_head (time / 1000000) (time % 1000000) (length octets) ++ octets

-- A packet that is written: its time in microseconds, and its octets.
pub record WrittenPacket : Type 0 where
  pub time : ℕ
  pub octets : List ℕ

-- Its time has room in a record, and it is no longer than an IPv4 packet.
pub record IsWritable (p : WrittenPacket) : Type 0 where
  pub time : p.time < 2 ^ 32 * 1000000
  pub octets : length p.octets < 2 ^ 16

abbrev pub packet_record : WrittenPacket → List ℕ
packet_record p = written_record p.time p.octets

-- the capture of these packets
abbrev pub written_capture : List WrittenPacket → List ℕ
written_capture packets = written_head ++ flat_map packet_record packets

-- what is read of packets that were written, where the first of them begins at this octet
abbrev pub packets_at : ℕ → List WrittenPacket → List CapturedPacket
packets_at octet [] = []
packets_at octet (p ∷ rest) = record { octet = octet; link = Ipv4; time = p.time * 1000; octets = p.octets }
    ∷ packets_at (octet + (16 + length p.octets)) rest
