-- What stands in front of a datagram, and how long it is.
use Rattle.std.specs.Prelude.{ℕ, ◌+◌, ◌*◌, ◌/◌, ◌==◌, ◌&&◌, ◌||◌, nat_le, if◌then◌else◌, Bool, false, List, ◌∷◌}
use Rattle.std.specs.Prelude.{Option, Some, None}
use Rattle.std.specs.Prelude.{length, take, drop, slice_index}
use Rattle.byteorder.specs.Endian.{big_number}
use Rattle.dmr_capture.specs.declared.link.Link.{Link}
use Rattle.dmr_capture.specs.declared.link.Link.TheVariants.{Ethernet, Raw, LinuxCooked, Ipv4, LinuxCooked2}

-- the number of a link type
abbrev pub link_number : Link → ℕ
link_number Ethernet = 1
link_number Raw = 101
link_number LinuxCooked = 113
link_number Ipv4 = 228
link_number LinuxCooked2 = 276

-- the number of two octets in an order of their own, the highest first
abbrev pub two_octets : ℕ → ℕ → ℕ
two_octets first second = first * 256 + second

-- whether a type of Ethernet is that of a tag: 8100 or 88A8
abbrev pub is_tag : ℕ → ℕ → Bool
is_tag first second = (first == 0x81) && (second == 0) || (first == 0x88) && (second == 0xA8)

-- whether a tag stands in front, whole: its type, and two octets
abbrev pub begins_with_tag : List ℕ → Bool
begins_with_tag (first ∷ second ∷ third ∷ fourth ∷ rest) = is_tag first second
begins_with_tag octets = false

-- what stands behind the type, where that is 0800, which is IPv4
abbrev pub behind_type : List ℕ → Option (List ℕ)
behind_type (first ∷ second ∷ packet) = if (first == 8) && (second == 0) then Some packet else None
behind_type octets = None

-- the same behind tags of four octets each, in front of the type
abbrev pub behind_tags : List ℕ → Option (List ℕ)
behind_tags (first ∷ second ∷ third ∷ fourth ∷ rest) =
    if is_tag first second then behind_tags rest else behind_type (first ∷ second ∷ third ∷ fourth ∷ rest)
behind_tags octets = behind_type octets

-- What stands in a packet behind the head of its link. Ethernet has two addresses of six octets in front of its tags and its type.
-- The heads of Linux have 16 octets with the type at 14, and 20 with the type in front.
abbrev pub behind_link : Link → List ℕ → Option (List ℕ)
behind_link Ethernet octets = if nat_le 12 (length octets) then behind_tags (drop 12 octets) else None
behind_link Raw octets = Some octets
behind_link Ipv4 octets = Some octets
behind_link LinuxCooked octets =
    if nat_le 16 (length octets) && (slice_index octets 14 == 8) && (slice_index octets 15 == 0)
    then Some (drop 16 octets) else None
behind_link LinuxCooked2 octets =
    if nat_le 20 (length octets) && (slice_index octets 0 == 8) && (slice_index octets 1 == 0)
    then Some (drop 20 octets) else None

-- the total length that an IPv4 packet says
abbrev pub ipv4_length : List ℕ → ℕ
ipv4_length octets = big_number 2 (drop 2 octets)

-- whether an IPv4 packet stands at the front of octets, whole: its version is 4, and its total length is at least 20 and is there
abbrev pub is_ipv4 : List ℕ → Bool
is_ipv4 octets = nat_le 20 (length octets) && (slice_index octets 0 / 16 == 4) && nat_le 20 (ipv4_length octets)
    && nat_le (ipv4_length octets) (length octets)

-- the IPv4 packet at the front of octets, by its total length
abbrev pub ipv4_of : List ℕ → Option (List ℕ)
ipv4_of octets = if is_ipv4 octets then Some (take (ipv4_length octets) octets) else None

abbrev pub ipv4_of_found : Option (List ℕ) → Option (List ℕ)
ipv4_of_found None = None
ipv4_of_found (Some octets) = ipv4_of octets

-- the IPv4 packet that a packet of this link carries
abbrev pub ipv4_carried : Link → List ℕ → Option (List ℕ)
ipv4_carried link octets = ipv4_of_found (behind_link link octets)
