-- What the gateway makes of frames: the bursts that it has for both slots, what it receives, and what became of the datagrams that
-- are offered to it.
use Rattle.std.specs.Prelude.{◌≡◌, ℕ, zero, suc, ◌+◌, ◌==◌, List, [], ◌∷◌, ◌++◌, length, map, filter, count_by, sum}
use Rattle.std.specs.Prelude.{Option, is_some, is_none, option_to_list, zip}
use Rattle.std.specs.List.{AllByRecursion, flat_map}
use Rattle.dmr_burst.specs.declared.burst.Burst.{Burst}
use Rattle.dmr_arq.specs.declared.sender_state.Outcome.{Outcome}
use Rattle.dmr_arq.specs.declared.sender_state.Outcome.TheVariants.{Delivered, Sent, GivenUp}
use Rattle.dmr_record.specs.Outgoing.{Sending}
use Rattle.dmr_record.specs.Received.{Receipt}
use Rattle.dmr_slot.specs.declared.line.SlotOut.{SlotOut}
use Rattle.dmr_gateway.specs.AttemptMeaning.{attempts, refused_now}
use Rattle.dmr_gateway.specs.Bursts.{IsGatewayOut}
use Rattle.dmr_gateway.specs.GatewayRules.{IsSlot}
use Rattle.dmr_gateway.specs.Heard.{IsHeardByGateway}
use Rattle.dmr_gateway.specs.Packets.{offer_fault, IsPacketFor}
use Rattle.dmr_gateway.specs.RecordMeaning.{received_now}
use Rattle.dmr_gateway.specs.Runs.{Happening, all_heard, brings}
use Rattle.dmr_gateway.specs.declared.fault.GatewayFault.{GatewayFault}
use Rattle.dmr_gateway.specs.declared.received.Received.{Received}
use Rattle.std.specs.List.{AllZip}
use Rattle.dmr_station.specs.StationRules.{Settings, Counts, is_free, outcome_count}
use Rattle.dmr_station.specs.Sent.{SlotBursts}

-- 1. What is offered.

-- Each datagram is for slot 1 or for slot 2.
abbrev pub AreForSlots : List Sending → Type 0
AreForSlots sendings = AllByRecursion (λ s. IsSlot s.slot) sendings

-- The datagrams of so many frames, from this one on: of each frame those that the outgoing file has for it.
abbrev pub by_frame : ℕ → ℕ → List Sending → List (List Sending)
by_frame frame zero sendings = []
by_frame frame (suc count) sendings = filter (λ s. s.frame == frame) sendings ∷ by_frame (frame + 1) count sendings

-- The fault that a datagram has of its own, whatever waits in its slot.
abbrev pub record_fault : Sending → Option GatewayFault
record_fault s = offer_fault s.confirmed s.full (length s.datagram) s.datagram

-- 2. One slot.

-- What a slot of the gateway gives in a frame: its burst, what it received, what became of a packet, and how many of the
-- datagrams that were offered it refused.
pub record Given : Type 0 where
  pub burst : Option Burst
  pub received : List Received
  pub outcome : Option Outcome
  pub refused : ℕ

-- What happens in the slot in a frame: a packet is offered for each of these datagrams that has no fault of its own, in their
-- order, the gateway hears what its line repeats, and the slot is free where its line gives nothing.
pub record Happens (s : Settings) (offered : List Sending) (out : SlotOut) (h : Happening) : Type 0 where
  pub offers : AllZip (λ d packet. IsPacketFor s.llid d.confirmed d.full d.datagram packet)
      (filter (λ d. is_none (record_fault d)) offered) h.offers
  pub heard : IsHeardByGateway out.repeated h.heard
  pub free : h.free ≡ is_free out

-- What the slot gives in the newest frame: the burst of the attempt that stands in it, what is completed in it, what became of a
-- packet; and refused are the datagrams with a fault, and those that found the queue full.
pub record IsGiven (s : Settings) (slot : ℕ) (frames : List Happening) (offered : List Sending) (given : Given) : Type 0 where
  pub burst : IsGatewayOut s.colour s.llid (attempts s.queue s.llid (brings s.llid frames)).burst given.burst
  pub received : given.received ≡ received_now s.llid slot (all_heard frames)
  pub outcome : given.outcome ≡ (attempts s.queue s.llid (brings s.llid frames)).ledger.outcome
  pub refused : given.refused ≡ count_by (λ d. is_some (record_fault d)) offered + refused_now s.queue s.llid (brings s.llid frames)

-- Frame by frame, each with the datagrams that are offered in it for this slot, after those that happened before, the newest of
-- them first.
abbrev pub AreGiven : Settings → ℕ → List Happening → List (List Sending) → List SlotOut → List Given → Type 0
AreGiven s slot back [] [] [] = Unit {0}
AreGiven s slot back (offered ∷ offers) (out ∷ outs) (given ∷ more) =
    let own = filter (λ d. d.slot == slot) offered in
    (h : Happening) × Happens s own out h × IsGiven s slot (h ∷ back) own given × AreGiven s slot (h ∷ back) offers outs more
AreGiven s slot back offers outs givens = ⊥

-- 3. Both slots.

-- The record of the received file for what was received in a frame: its frame, slot, kind, source and octets.
abbrev pub receipt_in : ℕ → Received → Receipt
receipt_in frame r = record { frame = frame; slot = r.slot; kind = r.kind; source = r.source; octets = r.octets }

-- The records from a frame on, slot 1 first in each.
abbrev pub receipts_of : ℕ → List Given → List Given → List Receipt
receipts_of frame [] second = []
receipts_of frame (a ∷ first) [] = []
receipts_of frame (a ∷ first) (b ∷ second) =
    map (receipt_in frame) (a.received ++ b.received) ++ receipts_of (frame + 1) first second

-- What the frames count of the gateway, over both slots.
abbrev pub counts_of : List Given → List Given → Counts
counts_of first second =
    record {
      received = length (receipts_of 0 first second);
      delivered = outcomes_in Delivered first + outcomes_in Delivered second;
      sent = outcomes_in Sent first + outcomes_in Sent second;
      given_up = outcomes_in GivenUp first + outcomes_in GivenUp second;
      refused = refused_in first + refused_in second;
    }
  where
    -- How many packets of one slot ended so, over all its frames.
    outcomes_in : Outcome → List Given → ℕ
    outcomes_in outcome givens = outcome_count outcome (flat_map (λ g. option_to_list g.outcome) givens)

    -- How many datagrams one slot refused, over all its frames.
    refused_in : List Given → ℕ
    refused_in givens = sum (map (λ g. g.refused) givens)

-- From what the lines of both slots give and the datagrams that are offered in each frame: the bursts that the gateway has for
-- both slots, the records of what it receives, and what it counts.
pub record IsGatewayOf (s : Settings) (offers : List (List Sending)) (first second : List SlotOut)
    (gates : List SlotBursts) (receipts : List Receipt) (counts : Counts) : Type 0 where
  pub first_given : List Given
  pub second_given : List Given
  pub first_slot : AreGiven s 1 [] offers first first_given
  pub second_slot : AreGiven s 2 [] offers second second_given
  pub gates_are : gates ≡ map (λ given. given.0.burst ∷ given.1.burst ∷ []) (zip first_given second_given)
  pub receipts_are : receipts ≡ receipts_of 0 first_given second_given
  pub counts_are : counts ≡ counts_of first_given second_given
