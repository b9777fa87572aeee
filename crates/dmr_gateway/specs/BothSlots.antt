-- A frame of both slots, by the calls of the gateway, and what it comes to in each of them.
use Rattle.std.specs.Prelude.{◌≡◌, ◌↔◌, ℕ, ◌+◌, Bool, List, [], ◌∷◌, Option}
use Rattle.std.specs.List.{AllByRecursion}
use Rattle.dmr_burst.specs.declared.burst.Burst.{Burst}
use Rattle.dmr_arq.specs.declared.sender_state.Outcome.{Outcome}
use Rattle.dmr_record.specs.declared.outgoing.Outgoing.{Outgoing}
use Rattle.dmr_gateway.specs.declared.received.Received.{Received}
use Rattle.dmr_gateway.specs.AttemptMeaning.{attempts, refused_now}
use Rattle.dmr_gateway.specs.Bursts.{IsGatewayOut}
use Rattle.dmr_gateway.specs.GatewayRules.{Gate, new_gate, IsSlot, AreOffered, IsAskedFor, Offers, faults_in}
use Rattle.dmr_gateway.specs.Heard.{IsHeardByGateway}
use Rattle.dmr_gateway.specs.RecordMeaning.{received_now}
use Rattle.dmr_gateway.specs.Runs.{Happening, all_heard, brings, side_after}
use Rattle.dmr_gateway.specs.SideRules.{all_taken, all_received, side_outcome}

-- 1. By the calls.

-- A slot in a frame: what the line repeats, whether the slot is free, and the burst that it is given.
pub record SlotTurn : Type 0 where
  pub repeated : Option Burst
  pub free : Bool
  pub burst : Option Burst

-- A frame: datagrams are offered, and then slot 1 and slot 2 hear and are asked for a burst. So many offers are refused.
pub record IsFrameOfBothSlots (offered : List Outgoing) (first second : SlotTurn) (refused : ℕ) (before after : Gate) : Type 0 where
  pub slots : AllByRecursion (λ o. IsSlot o.slot) offered
  pub offers : Gate
  pub are_offered : AreOffered offered before refused offers
  pub between : Gate
  pub first_asked : IsAskedFor 1 first.repeated first.free offers first.burst between
  pub second_asked : IsAskedFor 2 second.repeated second.free between second.burst after

-- after all that came in is taken, and what became of packets
abbrev pub all_taken_of : Gate → Gate
all_taken_of g = record g { first = all_taken g.first; second = all_taken g.second }

-- The gateway stands where these frames of both slots, the newest of them first, have led, and all was taken.
pub record Stands (colour llid limit : ℕ) (first second : List Happening) (g : Gate) : Type 0 where
  pub first_is : g.first ≡ all_taken (side_after llid 1 limit first)
  pub second_is : g.second ≡ all_taken (side_after llid 2 limit second)
  pub llid_is : g.llid ≡ llid
  pub colour_is : g.colour ≡ colour

-- 2. What it comes to.

-- What happened in a slot: packets of its datagrams that have no fault of their own were offered, what the line repeats was
-- heard, and the slot was free or not.
pub record Happened (llid slot : ℕ) (offered : List Outgoing) (turn : SlotTurn) (h : Happening) : Type 0 where
  pub offers : Offers llid slot offered h.offers
  pub heard : IsHeardByGateway turn.repeated h.heard
  pub free : h.free ≡ turn.free

-- What a slot gives in the newest of its frames is what is meant: the burst of the attempt that stands there, what is received
-- there, and what became of a packet.
pub record GivesAsMeant (colour llid slot limit : ℕ) (frames : List Happening) (burst : Option Burst) (received : List Received)
    (outcome : Option Outcome) : Type 0 where
  pub encoded : IsGatewayOut colour llid (attempts limit llid (brings llid frames)).burst burst
  pub received_is : received ≡ received_now llid slot (all_heard frames)
  pub outcome_is : outcome ≡ (attempts limit llid (brings llid frames)).ledger.outcome

-- Of both slots: refused are the datagrams that have a fault of their own, and those that find their queue full.
pub record FrameAsMeant (colour llid limit : ℕ) (first second : List Happening) (offered : List Outgoing) (one two : SlotTurn)
    (refused : ℕ) (after : Gate) : Type 0 where
  pub first_new : Happening
  pub second_new : Happening
  pub first_happened : Happened llid 1 offered one first_new
  pub second_happened : Happened llid 2 offered two second_new
  pub first_gives :
      GivesAsMeant colour llid 1 limit (first_new ∷ first) one.burst (all_received after.first) (side_outcome after.first)
  pub second_gives :
      GivesAsMeant colour llid 2 limit (second_new ∷ second) two.burst (all_received after.second) (side_outcome after.second)
  pub refusals :
      refused
      ≡ faults_in offered
      + (refused_now limit llid (brings llid (first_new ∷ first)) + refused_now limit llid (brings llid (second_new ∷ second)))
  pub stands : Stands colour llid limit (first_new ∷ first) (second_new ∷ second) (all_taken_of after)

-- A new gateway stands where no frame has led.
abbrev pub StandsAtTheStart : Type 0
StandsAtTheStart = (colour llid limit : ℕ) → Stands colour llid limit [] [] (new_gate colour llid limit)

-- From where frames have led it gives in one more what is meant, and stands where that has led, once all is taken.
abbrev pub FramesAsMeant : Type 0
FramesAsMeant =
    (colour llid limit : ℕ) (first second : List Happening) (offered : List Outgoing) (one two : SlotTurn) (refused : ℕ)
    (before after : Gate) →
    Stands colour llid limit first second before → IsFrameOfBothSlots offered one two refused before after →
    FrameAsMeant colour llid limit first second offered one two refused after

-- 3. Which slot comes first.

-- Two slots hear and are asked for a burst, one behind the other.
pub record AreAskedInTurn (slot later : ℕ) (turn later_turn : SlotTurn) (before after : Gate) : Type 0 where
  pub between : Gate
  pub asked : IsAskedFor slot turn.repeated turn.free before turn.burst between
  pub later_asked : IsAskedFor later later_turn.repeated later_turn.free between later_turn.burst after

-- Whichever of both slots comes first, the bursts are the same, and so is what the gateway remembers.
abbrev pub InEitherOrder : Type 0
InEitherOrder =
    (first second : SlotTurn) (before after : Gate) →
    AreAskedInTurn 1 2 first second before after ↔ AreAskedInTurn 2 1 second first before after
