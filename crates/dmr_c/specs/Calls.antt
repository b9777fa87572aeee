-- What a call makes of the station in a handle, and what it answers.
use Rattle.std.specs.Prelude.{ℕ, ◌≡◌, ◌+◌, ◌^◌, ◌==◌, ◌||◌, nat_le, Bool, List, length, take, Option, None, Some}
use Rattle.std.specs.Prelude.{if◌then◌else◌}
use Rattle.dmr_gateway.specs.GatewayRules.{next_received}
use Rattle.dmr_gateway.specs.declared.received.Received.{Received}
use Rattle.dmr_record.specs.Received.{kind_octet}
use Rattle.dmr_record.specs.declared.outgoing.Outgoing.{Outgoing}
use Rattle.dmr_station.specs.Station.{State}
use Rattle.dmr_station.specs.StationRules.{Settings}
use Rattle.dmr_c.specs.declared.values.StationCounts.{StationCounts}
use Rattle.dmr_c.specs.declared.values.StationReceipt.{StationReceipt}
use Rattle.dmr_c.specs.declared.values.StationSettings.{StationSettings}
use Rattle.dmr_c.specs.Status as status

-- 1. What a call makes of a station.

-- There is a station before and after, and this holds of both.
abbrev pub Becomes : Option State → Option State → (State → State → Type 0) → Type 0
Becomes (Some before) (Some after) R = R before after
Becomes None after R = ⊥
Becomes (Some before) None R = ⊥

-- The settings that the rules go by, of those that a host passes.
abbrev pub settings_passed : StationSettings → Settings
settings_passed s =
    record { colour = s.colour; llid = s.llid; call_hang = s.call_hang; channel_hang = s.channel_hang; queue = s.queue }

-- The datagram that is offered to a station, for the frame that it exchanges next.
abbrev pub offer_of : ℕ → Bool → Bool → List ℕ → State → Outgoing
offer_of slot confirmed full octets before =
    record {
      frame = before.frames;
      slot = slot;
      confirmed = confirmed;
      full = full;
      length = length octets;
      octets = take 1400 octets;
    }

-- A host is told of what was received: its fields, and its octets at the front of the room.
pub record IsTold (receipt : StationReceipt) (room : List ℕ) (received : Received) : Type 0 where
  pub slot : receipt.slot ≡ received.slot
  pub kind : receipt.kind ≡ kind_octet received.kind
  pub source : receipt.source ≡ received.source
  pub count : receipt.length ≡ length received.octets
  pub octets : take (length received.octets) room ≡ received.octets

-- These are what the station has done.
pub record AreCounts (counts : StationCounts) (state : State) : Type 0 where
  pub frames : counts.frames ≡ state.frames
  pub repeated : counts.repeated ≡ state.repeated
  pub offered : counts.offered ≡ state.offered
  pub received : counts.received ≡ state.counts.received
  pub delivered : counts.delivered ≡ state.counts.delivered
  pub sent : counts.sent ≡ state.counts.sent
  pub given_up : counts.given_up ≡ state.counts.given_up
  pub refused : counts.refused ≡ state.counts.refused

-- 2. What a call answers of the station in a handle.

-- A frame is exchanged, unless there were 2^29 of them.
abbrev pub exchange_status : Option State → ℕ
exchange_status None = status.no_station
exchange_status (Some s) = if nat_le (2 ^ 29) s.frames then status.at_limit else status.done

-- A datagram of so many octets is offered for a slot that there is, unless there were 2^32 - 1 of them, or it has more octets than
-- 16 bits can tell.
abbrev pub offer_status : ℕ → ℕ → Option State → ℕ
offer_status slot count None = status.no_station
offer_status slot count (Some s) =
    if (slot == 1) || (slot == 2)
    then (if nat_le (2 ^ 32) (s.offered + 1) then status.at_limit
    else (if nat_le (2 ^ 16) count then status.no_room else status.done))
    else status.bad_slot

-- What was received next is taken, where there is something.
abbrev pub take_status : Option State → ℕ
take_status None = status.no_station
take_status (Some s) = status_of_next (next_received s.memory.gate)
  where
    -- By whether there is a next one.
    status_of_next : Option Received → ℕ
    status_of_next (Some received) = status.done
    status_of_next None = status.none_received

-- The counts are told of any station.
abbrev pub counts_status : Option State → ℕ
counts_status None = status.no_station
counts_status (Some s) = status.done
