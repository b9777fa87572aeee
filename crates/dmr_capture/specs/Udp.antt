-- What UDP carries in an IPv4 packet.
use Rattle.std.specs.Prelude.{ℕ, ◌+◌, ◌-◌, ◌*◌, ◌%◌, ◌==◌, ◌&&◌, nat_le, if◌then◌else◌, Bool, List, Option, Some, None}
use Rattle.std.specs.Prelude.{length, take, drop, slice_index}
use Rattle.byteorder.specs.Endian.{big_number}

-- how many octets the head of an IPv4 packet has: its first octet says them, in four each
abbrev pub head_length : List ℕ → ℕ
head_length packet = slice_index packet 0 % 16 * 4

-- the number of two octets behind the head of an IPv4 packet, so many octets later
abbrev pub behind_head : ℕ → List ℕ → ℕ
behind_head at packet = big_number 2 (drop (head_length packet + at) packet)

-- whether a packet isn't a fragment: no more fragments follow, and none stand in front
abbrev pub is_unfragmented : List ℕ → Bool
is_unfragmented packet = (slice_index packet 6 % 64 == 0) && (slice_index packet 7 == 0)

-- whether the datagram of UDP behind the head of an IPv4 packet is there: its length is at least 8
abbrev pub is_udp_there : List ℕ → Bool
is_udp_there packet = nat_le 20 (head_length packet) && nat_le (head_length packet + 8) (length packet)
    && nat_le 8 (behind_head 4 packet) && nat_le (head_length packet + behind_head 4 packet) (length packet)

-- whether an IPv4 packet carries a datagram of UDP: its protocol is 17, it is no fragment, its head has 20 octets or more, and the
-- datagram is there
abbrev pub is_udp : List ℕ → Bool
is_udp packet = nat_le 20 (length packet) && (slice_index packet 9 == 17) && is_unfragmented packet && is_udp_there packet

-- A datagram of UDP: from one port to another, with this payload.
pub record UdpDatagram : Type 0 where
  pub source : ℕ
  pub destination : ℕ
  pub payload : List ℕ

-- the datagram that stands behind the head
abbrev pub udp_behind_head : List ℕ → UdpDatagram
udp_behind_head packet = record {
  source = behind_head 0 packet;
  destination = behind_head 2 packet;
  payload = take (behind_head 4 packet - 8) (drop (head_length packet + 8) packet);
}

-- the datagram of UDP that an IPv4 packet carries
abbrev pub udp_carried : List ℕ → Option UdpDatagram
udp_carried packet = if is_udp packet then Some (udp_behind_head packet) else None
