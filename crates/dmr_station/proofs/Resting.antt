-- A silent frame where all rests.
use Rattle.std.proofs.Common.{◌≡◌, ℕ, ◌+◌, ◌-◌, List, [], ◌∷◌, ◌++◌, Option, None, refl, sym, ◌∙◌, ap, arith, length, replicate}
use Rattle.std.proofs.lemmas.List.{replicate-append-replicate}
use Rattle.std.specs.Prelude.{nat_lt, option_to_list}
use Rattle.dmr_arq.specs.declared.sender_state.Outcome.{Outcome}
use Rattle.dmr_gateway.specs.GatewayRules.{Gate}
use Rattle.dmr_gateway.specs.GatewayRules as gateway
use Rattle.dmr_gateway.specs.SideRules.{all_received, side_told}
use Rattle.dmr_gateway.specs.declared.received.Received.{Received}
use Rattle.dmr_gateway.specs.declared.side.SideState.{SideState}
use Rattle.dmr_gateway.proofs.Resting.{first_asked, second_asked}
use Rattle.dmr_record.specs.Downlink.{Sent}
use Rattle.dmr_slot.specs.Activity.{IsMessage}
use Rattle.dmr_slot.specs.Bursts.{AreSent}
use Rattle.dmr_slot.specs.ChannelMeaning.{Free, slot_of}
use Rattle.dmr_slot.specs.ChannelRules.{OnAir}
use Rattle.dmr_station.specs.Announced.{IsAnnounced, nothing_given}
use Rattle.dmr_record.specs.declared.outgoing.Outgoing.{Outgoing}
use Rattle.dmr_station.specs.DownlinkRules.{silent_frame}
use Rattle.dmr_station.specs.Station.{State, AreExchanged, IsExchanged, all_received_taken, with_outcomes}
use Rattle.dmr_station.specs.StationRules.{StationMemory, Counts, IsAsked, RestsInSilence, outcomes_to_tell, outcomes_told}
use Rattle.dmr_station.specs.StationRules.{received_of, received_taken}
use Rattle.dmr_station.proofs.Exchanges.{exchanged-append}
use Rattle.dmr_station.specs.declared.announcing.Message.{Message}

-- The null message is what is announced where the lines give nothing.
pub nothing_announced : IsMessage None None 0 0
nothing_announced = record {
  first_activity = 0;
  first_hash = 0;
  first_slot = (refl, refl);
  second_activity = 0;
  second_hash = 0;
  second_slot = (refl, refl);
  opcode = refl;
  fields = refl;
}

-- Off the air nothing goes out in two free slots,
off_air_sent : (colour left : ℕ) → left ≡ 0
    → AreSent colour (slot_of (nat_lt 0 left) Free ∷ slot_of (nat_lt 0 left) Free ∷ []) (None ∷ None ∷ [])
off_air_sent colour left none = rw none (refl, (refl, tt))

-- and the channel stays off the air.
off_air_stays : (c : OnAir) → c.left ≡ 0 → c ≡ record { colour = c.colour; hang = c.hang; left = c.left - 1 }
off_air_stays c none =
    ap (λ (n : ℕ). record { colour = c.colour; hang = c.hang; left = n }) (none ∙ ap (λ (n : ℕ). n - 1) (sym none))

-- A silent frame is passed where all rests: nothing goes out, and only the message that is kept changes.
pub asked_in_silence : (m : StationMemory) (message : Message) (kept : Option Message) → RestsInSilence m
    → IsAnnounced m.kept nothing_given message kept → IsAsked m (None ∷ None ∷ []) (None ∷ None ∷ []) (record m { kept = kept })
asked_in_silence m message kept rests announced = record {
  first = record { repeated = None; hang = None; lc = None };
  second = record { repeated = None; hang = None; lc = None };
  first_line = rests.first;
  second_line = rests.second;
  between = m.gate;
  first_gate = None;
  second_gate = None;
  first_asked = first_asked m.gate rests.gate;
  second_asked = second_asked m.gate rests.gate;
  bursts = None ∷ None ∷ [];
  sent = off_air_sent m.channel.colour m.channel.left rests.channel;
  channel = off_air_stays m.channel rests.channel;
  message = message;
  announces = announced;
  marks = refl;
}

-- It rests whatever message is kept.
pub rests_with : (m : StationMemory) (kept : Option Message) → RestsInSilence m → RestsInSilence (record m { kept = kept })
rests_with m kept rests = record {
  first = rests.first;
  second = rests.second;
  channel = rests.channel;
  gate = rests.gate;
}

-- At rest no outcome is to be told,
pub none_to_tell : (g : Gate) → gateway.GateRests g → outcomes_to_tell g ≡ []
none_to_tell g rests =
    ap (λ (o : Option Outcome). option_to_list o ++ option_to_list g.second.outbox.sender.outcome) rests.first.untold
    ∙ ap (λ (o : Option Outcome). option_to_list o) rests.second.untold

-- and telling changes nothing.
pub told_at_rest : (g : Gate) → gateway.GateRests g → outcomes_told g ≡ g
told_at_rest g rests =
    ap (λ (s : SideState). record g { first = s; second = side_told g.second }) rests.first.told
    ∙ ap (λ (s : SideState). record g { second = s }) rests.second.told

-- A silent frame at rest is exchanged for a silent one, and counted.
pub exchanged_in_silence : (before : State) (next : StationMemory) → RestsInSilence next
    → IsAsked before.memory (None ∷ None ∷ []) (None ∷ None ∷ []) next
    → IsExchanged before (None ∷ None ∷ []) (None ∷ None ∷ []) (record before { memory = next; frames = before.frames + 1 })
exchanged_in_silence before next rests asked = record {
  sending = None ∷ None ∷ [];
  asked = next;
  is_asked = asked;
  memory = ap (λ (g : Gate). record next { gate = g }) (sym (told_at_rest next.gate rests.gate));
  encoded = (refl, (refl, tt));
  frames = refl;
  repeated = sym (plus_none before.repeated);
  offered = refl;
  counts = counted_none before.counts
      ∙ ap (λ (l : List Outcome). with_outcomes l before.counts) (sym (none_to_tell next.gate rests.gate));
}
  where
    plus_none : (n : ℕ) → n + 0 ≡ n
    plus_none n = omega arith

    counted_none : (c : Counts) → c ≡ with_outcomes [] c
    counted_none c =
        ap (λ (n : ℕ). record c { delivered = n }) (sym (plus_none c.delivered))
        ∙ ap (λ (n : ℕ). record c { delivered = c.delivered + 0; sent = n }) (sym (plus_none c.sent))
        ∙ ap (λ (n : ℕ). record c { delivered = c.delivered + 0; sent = c.sent + 0; given_up = n }) (sym (plus_none c.given_up))

-- At rest nothing was received,
none_received : (g : Gate) → gateway.GateRests g → received_of g ≡ []
none_received g rests =
    ap (λ (o : Option Received). (option_to_list o ++ option_to_list g.first.packet) ++ all_received g.second)
    rests.first.nothing.0
    ∙ ap (λ (o : Option Received). option_to_list o ++ all_received g.second) rests.first.nothing.1
    ∙ ap (λ (o : Option Received). option_to_list o ++ option_to_list g.second.packet) rests.second.nothing.0
    ∙ ap (λ (o : Option Received). option_to_list o) rests.second.nothing.1

-- so that taking all of it changes nothing,
taken_at_rest : (g : Gate) → gateway.GateRests g → g ≡ received_taken g
taken_at_rest g rests =
    ap (λ (o : Option Received). record g { first = record g.first { status = o } }) rests.first.nothing.0
    ∙ ap (λ (o : Option Received). record g { first = record g.first { status = None; packet = o } }) rests.first.nothing.1
    ∙ ap (λ (o : Option Received). record g {
      first = record g.first { status = None; packet = None };
      second = record g.second { status = o };
    }) rests.second.nothing.0
    ∙ ap (λ (o : Option Received). record g {
      first = record g.first { status = None; packet = None };
      second = record g.second { status = None; packet = o };
    }) rests.second.nothing.1

all_taken_at_rest : (s : State) → RestsInSilence s.memory → s ≡ all_received_taken s
all_taken_at_rest s rests =
    let none = ap length (none_received s.memory.gate rests.gate) in
    let same : s.counts.received ≡ s.counts.received + length (received_of s.memory.gate) = omega (arith, none) in
    ap (λ (g : Gate). record s { memory = record s.memory { gate = g } }) (taken_at_rest s.memory.gate rests.gate)
    ∙ ap (λ (n : ℕ). record s {
      memory = record s.memory { gate = received_taken s.memory.gate };
      counts = record s.counts { received = n };
    }) same

-- and a silent frame more is one behind the others.
pub passed_one_more : (n : ℕ) (a b c : State) → RestsInSilence c.memory
    → AreExchanged a (replicate n []) (replicate n silent_frame) (replicate n (None ∷ None ∷ [])) (replicate n []) b
    → IsExchanged b silent_frame (None ∷ None ∷ []) c
    → AreExchanged a (replicate (n + 1) []) (replicate (n + 1) silent_frame) (replicate (n + 1) (None ∷ None ∷ []))
    (replicate (n + 1) []) c
passed_one_more n a b c rests before one =
    let now : AreExchanged b ([] ∷ []) (silent_frame ∷ []) ((None ∷ None ∷ []) ∷ []) ([] ∷ []) c =
    (b, c, refl, one, sym (none_received c.memory.gate rests.gate), all_taken_at_rest c rests) in
    let all = exchanged-append a b c (replicate n []) ([] ∷ []) (replicate n silent_frame) (silent_frame ∷ [])
    (replicate n (None ∷ None ∷ [])) ((None ∷ None ∷ []) ∷ []) (replicate n []) ([] ∷ []) before now in
    rw (
      replicate-append-replicate {A = List Outgoing} n 1 [],
      replicate-append-replicate n 1 silent_frame,
      replicate-append-replicate {A = List Sent} n 1 (None ∷ None ∷ []),
      replicate-append-replicate {A = List Received} n 1 [],
    ) at all
