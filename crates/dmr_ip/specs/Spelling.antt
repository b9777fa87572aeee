-- Compressed forms: how octets spell a datagram. ETSI TS 102 361-3, header compression of UDP over
-- IPv4; the identifiers and what they name are this project's own.
use Rattle.std.specs.Prelude.{◌≡◌, ℕ, ◌+◌, ◌/◌, ◌%◌, ◌==◌, Bool, not, ◌&&◌, ◌||◌, nat_lt, ◌⊎◌}
use Rattle.std.specs.Prelude.{if◌then◌else◌, List, [], ◌∷◌, ◌++◌, length, drop, slice_index, Option, Some, None, Result}
use Rattle.std.specs.Int.{to_be_bytes, w16}
use Rattle.std.specs.Str.{bytes_eq}
use Rattle.dmr_ip.specs.Contents.{Contents, FitsDatagram, datagram_of, shown_contents}
use Rattle.dmr_ip.specs.Datagram.{number_at, unless}
use Rattle.dmr_ip.specs.declared.fault.ExpandFault.{ExpandFault}
use Rattle.dmr_ip.specs.declared.fault.ExpandFault.TheVariants as fault

-- 1. What spells a datagram.

-- Two address identifiers of four bits: 0 for the source, and for the destination 0 where it is a
-- radio, 2 where it is a group.
abbrev pub address_identifiers : Bool → ℕ
address_identifiers group = if group then 2 else 0

-- The port identifier goes with the port: 0 with every port, 1 and 2 with one each.
abbrev pub Identifies : ℕ → ℕ → Type 0
Identifies identifier port =
    (identifier ≡ 0)
    ⊎ (((identifier ≡ 1) × (port ≡ 5016)) ⊎ ((identifier ≡ 2) × (port ≡ 5017)))

-- With identifier 0 the port is spelled out.
abbrev pub port_octets : ℕ → ℕ → List ℕ
port_octets identifier port = if identifier == 0 then to_be_bytes w16 port else []

-- The form with these port identifiers. The opcode bits above them are 0.
abbrev pub form : (source_identifier destination_identifier : ℕ) → Bool → Contents → List ℕ
form source_identifier destination_identifier group c =
    to_be_bytes w16 c.identification
    ++ address_identifiers group ∷ source_identifier ∷ destination_identifier
    ∷ (port_octets source_identifier c.source_port
    ++ (port_octets destination_identifier c.destination_port ++ c.payload))

-- The octets spell the datagram, in a packet from one LLID to another, or to a group: they are a form
-- of some contents, and it is the datagram that is built of them.
pub record SpellsDatagram (octets : List ℕ) (source destination : ℕ) (group : Bool) (datagram : List ℕ) : Type 0 where
  pub contents : Contents
  pub fits : FitsDatagram contents
  pub source_identifier : ℕ
  pub destination_identifier : ℕ
  pub source_port : Identifies source_identifier contents.source_port
  pub destination_port : Identifies destination_identifier contents.destination_port
  pub spelled : octets ≡ form source_identifier destination_identifier group contents
  pub stands_for : datagram ≡ datagram_of source destination group contents

-- A port that has an identifier is written by it.
abbrev pub identifier_of : ℕ → ℕ
identifier_of port = if port == 5016 then 1 else if port == 5017 then 2 else 0

-- The form that is written.
abbrev pub written_form : Bool → Contents → List ℕ
written_form group c = form (identifier_of c.source_port) (identifier_of c.destination_port) group c

-- The octets are the form that is written for the datagram.
pub record Writes (octets : List ℕ) (source destination : ℕ) (group : Bool) (datagram : List ℕ) : Type 0 where
  pub contents : Contents
  pub fits : FitsDatagram contents
  pub spelled : octets ≡ written_form group contents
  pub stands_for : datagram ≡ datagram_of source destination group contents

-- 2. What octets are read as.

-- The port identifier of the source: the low seven bits of octet 3.
abbrev pub source_identifier : List ℕ → ℕ
source_identifier octets = slice_index octets 3 % 128

-- The port identifier of the destination: the low seven bits of octet 4.
abbrev pub destination_identifier : List ℕ → ℕ
destination_identifier octets = slice_index octets 4 % 128

-- How many octets a port has behind the identifiers.
abbrev pub port_length : ℕ → ℕ
port_length identifier = if identifier == 0 then 2 else 0

-- How many octets both ports have behind the identifiers.
abbrev pub ports_length : List ℕ → ℕ
ports_length octets = port_length (source_identifier octets) + port_length (destination_identifier octets)

-- The port that an identifier names, or that the octets begin with.
abbrev pub port_from : ℕ → List ℕ → ℕ
port_from identifier octets =
    if identifier == 0 then number_at octets 0 else if identifier == 1 then 5016 else 5017

-- The octets behind the five of the identification and the identifiers.
abbrev pub behind_identifiers : List ℕ → List ℕ
behind_identifiers octets = drop 5 octets

-- The octets behind the source port, or behind the identifiers where that port isn't spelled out.
abbrev pub behind_source_port : List ℕ → List ℕ
behind_source_port octets = drop (port_length (source_identifier octets)) (behind_identifiers octets)

-- The octets behind both ports, so far as these are spelled out: the payload.
abbrev pub behind_ports : List ℕ → List ℕ
behind_ports octets = drop (port_length (destination_identifier octets)) (behind_source_port octets)

-- The contents that octets say.
abbrev pub read_contents : List ℕ → Contents
read_contents octets = record {
  identification = number_at octets 0;
  source_port = port_from (source_identifier octets) (behind_identifiers octets);
  destination_port = port_from (destination_identifier octets) (behind_source_port octets);
  payload = behind_ports octets;
}

-- The first fault, in the order of the tests.
unfoldable pub form_fault : List ℕ → Bool → Option ExpandFault
form_fault octets group =
    if nat_lt (length octets) 5 then Some fault.Short else
    if not ((opcode_bit 3 == 0) && (opcode_bit 4 == 0)) then Some fault.Opcode else
    if not (slice_index octets 2 == address_identifiers group) then Some fault.Address else
    if nat_lt 2 (source_identifier octets) || nat_lt 2 (destination_identifier octets) then Some fault.Port else
    if nat_lt (length (behind_identifiers octets)) (ports_length octets) then Some fault.Short else
    if nat_lt 1400 (28 + length (behind_ports octets)) then Some fault.Long else
    None
  where
    -- An opcode bit stands above each port identifier of seven bits.
    opcode_bit : ℕ → ℕ
    opcode_bit place = slice_index octets place / 128

-- The datagram with the contents that are read, unless the octets have a fault as a form.
abbrev pub expand : List ℕ → (source destination : ℕ) → Bool → Result (List ℕ) ExpandFault
expand octets source destination group =
    unless (form_fault octets group) (datagram_of source destination group (read_contents octets))

-- 3. What a datagram is written as.

-- The written form, where the datagram is the one that is built of the contents that it shows.
abbrev pub compress : List ℕ → (source destination : ℕ) → Bool → Option (List ℕ)
compress datagram source destination group =
    if bytes_eq datagram (datagram_of source destination group (shown_contents datagram))
    then Some (written_form group (shown_contents datagram))
    else None
