-- Contents of datagrams, and the datagram that is built of them: what a compressed form stands for.
use Rattle.std.specs.Prelude.{ℕ, ◌+◌, ◌*◌, ◌^◌, ◌<◌, ◌≤◌, ◌==◌, Bool, if◌then◌else◌, List, ◌∷◌, ◌++◌, length, drop, slice_index}
use Rattle.std.specs.Int.{to_be_bytes, w16, w32}
use Rattle.dmr_ip.specs.Checksum.{checksum}
use Rattle.dmr_ip.specs.Datagram.{number_at}

-- What differs between two datagrams that have a compressed form and go from one radio to another.
pub record Contents : Type 0 where
  pub identification : ℕ
  pub source_port : ℕ
  pub destination_port : ℕ
  pub payload : List ℕ

-- Each number is one of eight bits.
abbrev pub AreOctets : List ℕ → Type 0
AreOctets octets = (k : ℕ) → slice_index octets k < 256

-- They go into the fields of a datagram, which has at most 1,400 octets.
pub record FitsDatagram (c : Contents) : Type 0 where
  pub identification : c.identification < 2 ^ 16
  pub source_port : c.source_port < 2 ^ 16
  pub destination_port : c.destination_port < 2 ^ 16
  pub payload : AreOctets c.payload
  pub room : 28 + length c.payload ≤ 1400

-- The IPv4 address of a radio: 12.x.y.z, where x.y.z is its LLID.
abbrev pub radio_address : ℕ → ℕ
radio_address llid = 12 * 2 ^ 24 + llid

-- The IPv4 address that a packet is for: 225.x.y.z for a group, and 12.x.y.z for a radio, where x.y.z is its LLID.
abbrev pub address : Bool → ℕ → ℕ
address group llid = if group then 225 * 2 ^ 24 + llid else radio_address llid

-- The IPv4 header with this checksum: version 4, five words, service 0, flags and offset 0, time to
-- live 64, protocol 17.
abbrev pub ip_header : (sum total identification source destination : ℕ) → List ℕ
ip_header sum total identification source destination =
    0x45 ∷ 0 ∷ to_be_bytes w16 total ++ to_be_bytes w16 identification
    ++ 0 ∷ 0 ∷ 64 ∷ 17 ∷ to_be_bytes w16 sum ++ to_be_bytes w32 source ++ to_be_bytes w32 destination

-- The UDP header with this checksum.
abbrev pub udp_header : (sum total source_port destination_port : ℕ) → List ℕ
udp_header sum total source_port destination_port =
    to_be_bytes w16 source_port ++ to_be_bytes w16 destination_port ++ to_be_bytes w16 total
    ++ to_be_bytes w16 sum

-- What the UDP checksum covers before the UDP header.
abbrev pub pseudo_header : (total source destination : ℕ) → List ℕ
pseudo_header total source destination =
    to_be_bytes w32 source ++ to_be_bytes w32 destination ++ 0 ∷ 17 ∷ to_be_bytes w16 total

-- A computed UDP checksum of 0 is sent as FFFF.
abbrev pub sent_checksum : ℕ → ℕ
sent_checksum sum = if sum == 0 then 0xffff else sum

-- The checksum of an IPv4 header with these fields, computed with a checksum of 0 in its place.
abbrev pub ip_checksum : (total identification source destination : ℕ) → ℕ
ip_checksum total identification source destination = checksum (ip_header 0 total identification source destination)

-- The checksum of a UDP header with these fields, as it is sent: computed over the pseudo header, the UDP header with a checksum
-- of 0 in its place, and the payload.
abbrev pub udp_checksum : (total source destination source_port destination_port : ℕ) → List ℕ → ℕ
udp_checksum total source destination source_port destination_port payload =
    let udp = udp_header 0 total source_port destination_port ++ payload in
    sent_checksum (checksum (pseudo_header total source destination ++ udp))

-- The datagram with these contents, from one address to another.
unfoldable pub datagram_between : (source destination : ℕ) → Contents → List ℕ
datagram_between source destination c =
    let total = 8 + length c.payload in
    let ip_sum = ip_checksum (20 + total) c.identification source destination in
    let udp_sum = udp_checksum total source destination c.source_port c.destination_port c.payload in
    ip_header ip_sum (20 + total) c.identification source destination
    ++ udp_header udp_sum total c.source_port c.destination_port
    ++ c.payload

-- The datagram with these contents, from one LLID to another, or to a group.
abbrev pub datagram_of : (source destination : ℕ) → Bool → Contents → List ℕ
datagram_of source destination group c = datagram_between (radio_address source) (address group destination) c

-- What a datagram has in the places of the contents.
abbrev pub shown_contents : List ℕ → Contents
shown_contents datagram = record {
  identification = number_at datagram 4;
  source_port = number_at datagram 20;
  destination_port = number_at datagram 22;
  payload = drop 28 datagram;
}
