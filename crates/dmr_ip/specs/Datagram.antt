-- UDP datagrams over IPv4, without options and not fragments: what the octets have to be, and which
-- fault comes first.
use Rattle.std.specs.Prelude.{◌≡◌, ◌≢◌, ℕ, ◌+◌, ◌-◌, ◌*◌, ◌/◌, ◌%◌, ◌^◌, ◌≤◌, ◌==◌, Bool, not, ◌&&◌, ◌||◌}
use Rattle.std.specs.Prelude.{nat_le, if◌then◌else◌, List, [], ◌∷◌, ◌++◌, length, take}
use Rattle.std.specs.Prelude.{drop, slice_index, Option, Some, None, Result, Ok, Err}
use Rattle.dmr_ip.specs.Checksum.{ones_complement_sum}
use Rattle.dmr_ip.specs.declared.fault.IpFault.{IpFault}
use Rattle.dmr_ip.specs.declared.fault.IpFault.TheVariants as fault

-- The number that two octets spell, the high one first, at a place.
abbrev pub number_at : List ℕ → ℕ → ℕ
number_at octets place = 256 * slice_index octets place + slice_index octets (place + 1)

-- 1. Fields of the IPv4 header (RFC 791), by octet.

-- The version of IP: the high four bits of octet 0.
abbrev pub ip_version : List ℕ → ℕ
ip_version octets = slice_index octets 0 / 16

-- How many words of four octets the IPv4 header has: the low four bits of octet 0.
abbrev pub header_words : List ℕ → ℕ
header_words octets = slice_index octets 0 % 16

-- How many octets the datagram has by its IPv4 header: octets 2 and 3.
abbrev pub total_length : List ℕ → ℕ
total_length octets = number_at octets 2

-- The flag that more fragments follow, the lowest of the three flags in octet 6: 1 where it is set.
abbrev pub more_fragments : List ℕ → ℕ
more_fragments octets = number_at octets 6 / 2 ^ 13 % 2

-- Where in the whole datagram a fragment begins: the 13 bits of octets 6 and 7 behind the flags, 0 for the first fragment.
abbrev pub fragment_offset : List ℕ → ℕ
fragment_offset octets = number_at octets 6 % 2 ^ 13

-- What the datagram carries, by octet 9: 17 says that it is UDP.
abbrev pub protocol : List ℕ → ℕ
protocol octets = slice_index octets 9

-- 2. Fields of the UDP header (RFC 768), behind an IPv4 header of five words.

-- How many octets the UDP header and its payload have by that header: octets 24 and 25.
abbrev pub udp_length : List ℕ → ℕ
udp_length octets = number_at octets 24

-- The checksum of the UDP header, of octets 26 and 27: 0 says that there is none.
abbrev pub udp_checksum_in : List ℕ → ℕ
udp_checksum_in octets = number_at octets 26

-- What the UDP checksum covers before the UDP header: both addresses, a zero, the protocol, and the
-- UDP length.
abbrev pub pseudo_header_in : List ℕ → List ℕ
pseudo_header_in octets =
    take 8 (drop 12 octets)
    ++ 0 ∷ protocol octets ∷ slice_index octets 24 ∷ slice_index octets 25 ∷ []

-- 3. Datagrams.

-- The octets are a UDP datagram over IPv4 of at most 1,400 octets.
pub record IsDatagram (octets : List ℕ) : Type 0 where
  pub at_least : 20 ≤ length octets
  pub at_most : length octets ≤ 1400
  pub counted : total_length octets ≡ length octets
  pub version_four : ip_version octets ≡ 4
  pub no_options : header_words octets ≡ 5
  pub header_sum : ones_complement_sum (take 20 octets) ≡ 0xffff
  pub last_fragment : more_fragments octets ≡ 0
  pub first_fragment : fragment_offset octets ≡ 0
  pub carries_udp : protocol octets ≡ 17
  pub udp_at_least : 28 ≤ length octets
  pub udp_counted : udp_length octets ≡ length octets - 20
  -- a UDP checksum of 0 says that there is none
  pub udp_sum : udp_checksum_in octets ≢ 0
      → ones_complement_sum (pseudo_header_in octets ++ drop 20 octets) ≡ 0xffff

-- 4. The tests of a parser, each of octets that passed those before it.

-- There are 20 to 1,400 octets, and as many as the IPv4 header says.
abbrev pub has_length : List ℕ → Bool
has_length octets =
    nat_le 20 (length octets) && nat_le (length octets) 1400 && (total_length octets == length octets)

-- The words of the IPv4 header add up to FFFF in one's complement.
abbrev pub has_header_sum : List ℕ → Bool
has_header_sum octets = ones_complement_sum (take 20 octets) == 0xffff

-- The datagram is not a fragment: no more fragments follow, and its offset is 0.
abbrev pub is_whole : List ℕ → Bool
is_whole octets = (more_fragments octets == 0) && (fragment_offset octets == 0)

-- There are at least 28 octets, and behind the 20 of the IPv4 header as many as the UDP header says.
abbrev pub has_udp_length : List ℕ → Bool
has_udp_length octets = nat_le 28 (length octets) && (udp_length octets == length octets - 20)

-- There is no UDP checksum, or the words that it covers add up to FFFF in one's complement.
abbrev pub has_udp_sum : List ℕ → Bool
has_udp_sum octets =
    (udp_checksum_in octets == 0)
    || (ones_complement_sum (pseudo_header_in octets ++ drop 20 octets) == 0xffff)

-- The first fault, in the order of the tests.
unfoldable pub datagram_fault : List ℕ → Option IpFault
datagram_fault octets =
    if not (has_length octets) then Some fault.Length else
    if not (ip_version octets == 4) then Some fault.Version else
    if not (header_words octets == 5) then Some fault.Options else
    if not (has_header_sum octets) then Some fault.HeaderSum else
    if not (is_whole octets) then Some fault.Fragment else
    if not (protocol octets == 17) then Some fault.Protocol else
    if not (has_udp_length octets) then Some fault.UdpLength else
    if not (has_udp_sum octets) then Some fault.UdpSum else
    None

-- A value, unless there is a fault.
abbrev pub unless : {X F : Type 0} → Option F → X → Result X F
unless None x = Ok x
unless (Some found) x = Err found

-- The octets, unless they have a fault as a datagram.
abbrev pub parse : List ℕ → Result (List ℕ) IpFault
parse octets = unless (datagram_fault octets) octets
