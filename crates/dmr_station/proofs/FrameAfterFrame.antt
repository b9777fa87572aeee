-- Frame after frame, each with the datagrams that are offered in it, and what the frames count together.
use Rattle.std.specs.Prelude.{ℕ, ◌≡◌, ◌+◌, List, [], ◌∷◌, length, Option}
use Rattle.dmr_arq.specs.declared.sender_state.Outcome.{Outcome}
use Rattle.dmr_arq.specs.declared.sender_state.Outcome.TheVariants.{Delivered, Sent, GivenUp}
use Rattle.dmr_gateway.specs.GatewayRules.{Gate, AreOffered}
use Rattle.dmr_gateway.specs.declared.received.Received.{Received}
use Rattle.dmr_record.specs.Uplink.{UplinkSlots}
use Rattle.dmr_record.specs.declared.outgoing.Outgoing.{Outgoing}
use Rattle.dmr_station.specs.Sent.{DownlinkBurst}
use Rattle.dmr_station.specs.StationRules.{StationMemory, Counts, nothing_counted, outcome_count, IsAsked, received_of}
use Rattle.dmr_station.specs.StationRules.{outcomes_to_tell, received_taken, outcomes_told}

-- What a frame gives besides its bursts: what was received, what became of packets, and how many datagrams were refused.
pub record FrameGiven : Type 0 where
  pub received : List Received
  pub outcomes : List Outcome
  pub refused : ℕ

-- What two stretches of frames count together, number by number.
abbrev pub added : Counts → Counts → Counts
added a b =
    record {
      received = a.received + b.received;
      delivered = a.delivered + b.delivered;
      sent = a.sent + b.sent;
      given_up = a.given_up + b.given_up;
      refused = a.refused + b.refused;
    }

-- What one frame counts: its records, its packets by what became of them, and the offers that it refused.
abbrev pub counted_frame : FrameGiven → Counts
counted_frame given =
    record {
      received = length given.received;
      delivered = outcome_count Delivered given.outcomes;
      sent = outcome_count Sent given.outcomes;
      given_up = outcome_count GivenUp given.outcomes;
      refused = given.refused;
    }

-- What these frames count together.
abbrev pub all_counted : List FrameGiven → Counts
all_counted [] = nothing_counted
all_counted (given ∷ more) = added (counted_frame given) (all_counted more)

-- What a frame gives of a gateway that was asked for its bursts, where it refused so many datagrams.
abbrev pub given_of : ℕ → Gate → FrameGiven
given_of refused g = record { received = received_of g; outcomes = outcomes_to_tell g; refused = refused }

-- What is remembered once all that the gateway received is taken, and what became of packets is told.
abbrev pub taken_of : StationMemory → StationMemory
taken_of m = record m { gate = received_taken (outcomes_told m.gate) }

-- A frame: datagrams are offered, the frame is passed on, and what the gateway gives is taken.
pub record IsPassed (before : StationMemory) (offered : List Outgoing) (frame : List (Option (List ℕ)))
    (sending : List (Option DownlinkBurst)) (given : FrameGiven) (after : StationMemory) : Type 0 where
  pub offers : Gate
  pub refused : ℕ
  pub are_offered : AreOffered offered before.gate refused offers
  pub asked : StationMemory
  pub is_asked : IsAsked (record before { gate = offers }) frame sending asked
  pub gives : given ≡ given_of refused asked.gate
  pub taken : after ≡ taken_of asked

-- Each frame goes by what the frames before it left: these datagrams are offered, this goes out, and this is given; and what is
-- remembered behind the last of them.
abbrev pub ArePassed : StationMemory → List (List Outgoing) → List UplinkSlots → List (List (Option DownlinkBurst)) →
    List FrameGiven → StationMemory → Type 0
ArePassed m [] [] [] [] after = after ≡ m
ArePassed m (offered ∷ offers) (frame ∷ frames) (slots ∷ sending) (given ∷ givens) after =
    (next : StationMemory) × IsPassed m offered frame slots given next × ArePassed next offers frames sending givens after
ArePassed m offers frames sending givens after = ⊥
