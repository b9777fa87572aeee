-- What is received: what a completed packet and a status give.
use Rattle.std.specs.Prelude.{ℕ, ◌^◌, ◌<◌, ◌==◌, ◌&&◌, not, nat_lt, nat_le, false, List, ◌∷◌, length}
use Rattle.std.specs.Prelude.{Option, Some, None, option_map, Result, if◌then◌else◌}
use Rattle.std.specs.Result.{result_ok}
use Rattle.std.specs.Int.{to_be_bytes, w16}
use Rattle.dmr_record.specs.declared.received.ReceivedKind.TheVariants.{Datagram, ShortData, Status}
pub use Rattle.dmr_record.specs.Received.{IsSlot}
use Rattle.dmr_data.specs.declared.header.Header.{Header}
use Rattle.dmr_data.specs.declared.header.Header.TheVariants as header
use Rattle.dmr_ip.specs.Spelling.{expand}
use Rattle.dmr_ip.specs.declared.fault.ExpandFault.{ExpandFault}
use Rattle.dmr_arq.specs.declared.received.Joined.{Joined}
use Rattle.dmr_gateway.specs.declared.received.Received.{Received}
use Rattle.dmr_gateway.specs.Packets.{compressed_service, ip_service}

-- 1. What fits.

-- What is received fits the record of it: the source is an address of 24 bits, and the length has 16.
pub record IsFitReceived (r : Received) : Type 0 where
  pub slot : IsSlot r.slot
  pub source : r.source < 2 ^ 24
  pub octets : length r.octets < 2 ^ 16

-- 2. What a packet gives.

-- The record of a datagram of these octets, which came in this slot from this source.
abbrev pub datagram_record : ℕ → ℕ → List ℕ → Received
datagram_record slot source octets = record { slot = slot; kind = Datagram; source = source; octets = octets }

-- The record of short data of these octets, which came in this slot from this source.
abbrev pub short_data_of : ℕ → ℕ → List ℕ → Received
short_data_of slot source octets = record { slot = slot; kind = ShortData; source = source; octets = octets }

-- The record of a body that is a datagram as it is, of 1 to 1,400 octets; none of any other.
abbrev pub plain_datagram : ℕ → ℕ → List ℕ → Option Received
plain_datagram slot source body =
    if nat_lt 0 (length body) && nat_le (length body) 1400 then Some (datagram_record slot source body) else None

-- The datagram of which a body from this source is the compressed form, or the fault of one that isn't.
abbrev pub expansion : List ℕ → (source llid : ℕ) → Result (List ℕ) ExpandFault
expansion body source llid = expand body source llid false

-- The record of the datagram that a compressed form was expanded to; none where the octets are no such form.
abbrev pub expanded : ℕ → ℕ → Result (List ℕ) ExpandFault → Option Received
expanded slot source expansion = option_map (datagram_record slot source) (result_ok expansion)

-- The record that a packet of this service access point gives: of a datagram as it is, or of an expanded one, and none of any
-- other.
abbrev pub service_gives : ℕ → ℕ → ℕ → ℕ → List ℕ → Option Received
service_gives llid slot service source body =
    if service == ip_service then plain_datagram slot source body
    else (if service == compressed_service then expanded slot source (expansion body source llid) else None)

-- What a completed packet gives: a datagram, as it is or expanded, or short data, or nothing.
abbrev pub record_given : ℕ → ℕ → Option Joined → Option Received
record_given llid slot None = None
record_given llid slot (Some joined) = record_by_header joined.header
  where
    -- By its header a packet gives a record of its service access point, or of short data. A header without a packet gives none.
    record_by_header : Header → Option Received
    record_by_header (header.Unconfirmed h) = service_gives llid slot h.sap h.source joined.body
    record_by_header (header.Confirmed h) = service_gives llid slot h.sap h.source joined.body
    record_by_header (header.ShortData h) = Some (short_data_of slot h.source joined.body)
    record_by_header (header.Status h) = None
    record_by_header (header.Response h) = None

-- 3. What a status gives.

-- The record of a status header for the gateway: both ports, and the status in two octets. Any other header gives none.
abbrev pub status_gives : ℕ → ℕ → Option Header → Option Received
status_gives llid slot None = None
status_gives llid slot (Some (header.Status h)) =
    if not h.group && (h.destination == llid)
    then Some (record {
      slot = slot;
      kind = Status;
      source = h.source;
      octets = h.source_port ∷ h.destination_port ∷ to_be_bytes w16 h.status;
    })
    else None
status_gives llid slot (Some (header.Unconfirmed h)) = None
status_gives llid slot (Some (header.Confirmed h)) = None
status_gives llid slot (Some (header.ShortData h)) = None
status_gives llid slot (Some (header.Response h)) = None
