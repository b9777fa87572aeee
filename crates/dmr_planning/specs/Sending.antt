-- The records of the outgoing list.
use Rattle.std.specs.Prelude.{◌≡◌, ℕ, ◌<◌, ◌≤◌, ◌⊎◌, Bool, true, false, List, [], ◌∷◌, length, slice_get, Option, Some, None}
use Rattle.std.specs.Prelude.{option_and_then}
use Rattle.std.specs.Int.{from_be_bytes, w32}
use Rattle.std.specs.List.{flat_map, AllAdjacentBelow}
use Rattle.std.specs.List.Sorted.{IsPermutation}
use Rattle.dmr_data.specs.declared.rate.Rate.{Rate}
use Rattle.dmr_data.specs.declared.rate.Rate.TheVariants.{Half, Full}
use Rattle.dmr_ip.specs.Contents.{datagram_between}
use Rattle.dmr_making.specs.Packets.{contents_of}
use Rattle.dmr_planning.specs.declared.sends.PlannedSend.{PlannedSend}
use Rattle.dmr_record.specs.Outgoing.{Sending}
use Rattle.dmr_script.specs.declared.send.AddressedMessage.{AddressedMessage}
use Rattle.dmr_script.specs.declared.send.Datagram.{Datagram}
use Rattle.dmr_script.specs.declared.send.Datagram.TheVariants as datagram
use Rattle.dmr_script.specs.declared.send.Send.{Send}
use Rattle.dmr_script.specs.declared.statement.NumberedStatement.{NumberedStatement}
use Rattle.dmr_script.specs.declared.statement.Statement.{Statement}
use Rattle.dmr_script.specs.declared.statement.Statement.TheVariants as statement

-- 1. What a record holds.

-- the number that four octets are, the most significant first
abbrev pub address_number : List ℕ → ℕ
address_number octets = from_be_bytes w32 octets

-- the UDP datagram over IPv4 between two addresses
abbrev pub udp_datagram : AddressedMessage → List ℕ
udp_datagram m = datagram_between (address_number m.source) (address_number m.destination) (contents_of m.message)

-- the octets of a datagram
abbrev pub datagram_octets : Datagram → List ℕ
datagram_octets (datagram.Octets octets) = octets.items
datagram_octets (datagram.Udp m) = udp_datagram m

-- a datagram is sent at rate 1
abbrev pub is_full_rate : Rate → Bool
is_full_rate Half = false
is_full_rate Full = true

-- the record of the outgoing list that a statement is, in this slot and frame
abbrev pub record_of : PlannedSend → Send → Sending
record_of s said = record {
  frame = s.frame;
  slot = s.slot;
  confirmed = said.confirmed;
  full = is_full_rate said.rate;
  datagram = datagram_octets said.datagram;
}

-- the datagram to send that a statement is, where it is one
abbrev pub send_of : Statement → Option Send
send_of (statement.Send said) = Some said
send_of _ = None

-- the datagram to send that the statement with this number is
abbrev pub send_in : List NumberedStatement → ℕ → Option Send
send_in statements at = option_and_then (λ (s : NumberedStatement). send_of s.statement) (slice_get statements at)

-- the record that a statement is, or none
abbrev pub records_with : PlannedSend → Option Send → List Sending
records_with s None = []
records_with s (Some said) = record_of s said ∷ []

abbrev pub said_records : List NumberedStatement → PlannedSend → List Sending
said_records statements s = records_with s (send_in statements s.statement)

-- The records of the outgoing list.
abbrev pub planned_sendings : List NumberedStatement → List PlannedSend → List Sending
planned_sendings statements sends = flat_map (said_records statements) sends

-- 2. Their order.

-- which statement says a record
abbrev pub said_number : PlannedSend → ℕ
said_number s = s.statement

-- One stands in front of another: it is offered in an earlier frame, or in slot 1 of the same frame and not in slot 2, or in the
-- same slot and frame by no later statement.
abbrev pub StandsInFront : PlannedSend → PlannedSend → Type 0
StandsInFront a b =
    (a.frame < b.frame)
    ⊎ ((a.frame ≡ b.frame) × ((a.slot < b.slot) ⊎ ((a.slot ≡ b.slot) × (a.statement ≤ b.statement))))

-- The records of a list are these, each in front of the next.
pub record AreInListOrder (by_line sorted : List PlannedSend) : Type 0 where
  pub same : IsPermutation by_line sorted
  pub order : AllAdjacentBelow StandsInFront sorted (length sorted)
