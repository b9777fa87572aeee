-- What a station gives for frames, one after another.
use Rattle.std.proofs.Common.{◌≡◌, ℕ, ◌+◌, ◌*◌, cond, List, [], ◌∷◌, ◌++◌, length, map, Option, refl, sym, ap, ◌∙◌, subst, arith}
use Rattle.std.proofs.lemmas.List.Sums.{sum_by-append}
use Rattle.dmr_burst.specs.declared.burst.Burst.{Burst}
use Rattle.dmr_slot.specs.declared.line.SlotOut.{SlotOut}
use Rattle.dmr_station.specs.declared.announcing.Message.{Message}
use Rattle.dmr_station.specs.Sent.{DownlinkBurst}
use Rattle.dmr_station.specs.DownlinkRules.{is_repeated, repeated_count, slots_of}
use Rattle.dmr_gateway.specs.GatewayRules.{Gate, refusal}
use Rattle.dmr_gateway.specs.GatewayRules as gateway
use Rattle.dmr_gateway.specs.declared.received.Received.{Received}
use Rattle.dmr_record.specs.Uplink.{UplinkSlots}
use Rattle.dmr_record.specs.declared.outgoing.Outgoing.{Outgoing}
use Rattle.dmr_station.specs.DownlinkRules.{Makes}
use Rattle.dmr_station.specs.StationRules.{StationMemory, Counts, marked_slots, IsAsked}
use Rattle.dmr_station.proofs.FrameAfterFrame.{FrameGiven, IsPassed, ArePassed, given_of}
use Rattle.dmr_station.specs.StationRules.{received_of}
use Rattle.dmr_station.specs.StationRules.{outcomes_to_tell, received_taken, outcomes_told}
use Rattle.dmr_station.proofs.FrameAfterFrame.{added, all_counted, counted_frame}
use Rattle.dmr_station.specs.StationRules.{nothing_counted}
use Rattle.dmr_station.specs.Sent.{AreSentAs}
use Rattle.dmr_station.specs.Station.{State, fresh, IsOffered, AreOfferedOneByOne, after_offer, IsExchanged, AreExchanged}
use Rattle.dmr_station.specs.Station.{records_of, receipts_from}
use Rattle.dmr_station.specs.Station.{with_outcomes, all_received_taken, SendsByTheRules}
use Rattle.dmr_station.proofs.Counting.{same_counts}
use Rattle.dmr_station.proofs.Cleaning.{clean_made, sent_bursts_are_clean, two_sent}
use Rattle.dmr_station.proofs.Encodings.{encoded-append}
use Rattle.dmr_station.proofs.FramesBySlot.{makes}

-- ---- one frame has two slots
two_marked : (m : Message) (a b : SlotOut) (bursts : List (Option Burst)) → length bursts ≡ 2
    → length (marked_slots m (a ∷ b ∷ []) bursts) ≡ 2
two_marked m a b [] e = absurd (omega (arith, e))
two_marked m a b (x ∷ []) e = absurd (omega (arith, e))
two_marked m a b (x ∷ y ∷ []) e = refl
two_marked m a b (x ∷ y ∷ z ∷ more) e = absurd (omega (arith, e))

two_slots : (before : StationMemory) (frame : List (Option (List ℕ))) (sending : List (Option DownlinkBurst)) (after :
    StationMemory)
    → IsAsked before frame sending after → length sending ≡ 2
two_slots before frame sending after u =
    ap length u.marks
    ∙ two_marked u.message u.first u.second u.bursts
    (two_sent _ _ u.first u.second u.first_gate u.second_gate u.bursts u.sent)

-- ---- datagrams, one after another
-- with these refused, and so many offered
abbrev with_refused : ℕ → Counts → Counts
with_refused refused c = record c { refused = c.refused + refused }

record Offering (before : State) (os : List Outgoing) (ready : State) : Type 0 where
  refused : ℕ
  offered_all : gateway.AreOffered os before.memory.gate refused ready.memory.gate
  memory : ready.memory ≡ record before.memory { gate = ready.memory.gate }
  frames : ready.frames ≡ before.frames
  repeated : ready.repeated ≡ before.repeated
  offered : ready.offered ≡ before.offered + length os
  counts : ready.counts ≡ with_refused refused before.counts

none_refused : (c : Counts) → c ≡ with_refused 0 c
none_refused c = let e : c.refused ≡ c.refused + 0 = omega arith in ap (λ (n : ℕ). record c { refused = n }) e

more_refused : (a b : ℕ) (c : Counts) → with_refused b (with_refused a c) ≡ with_refused (a + b) c
more_refused a b c =
    let e : c.refused + a + b ≡ c.refused + (a + b) = omega arith in ap (λ (n : ℕ). record c { refused = n }) e

offering_at : (before next ready : State) (o : Outgoing) (os : List Outgoing) (one : IsOffered before o next)
    → next ≡ after_offer one.gate (refusal one.result) before
    → Offering (after_offer one.gate (refusal one.result) before) os ready → Offering before (o ∷ os) ready
offering_at before next ready o os one is more =
    let counted_frame = more.offered in
    record {
      refused = refusal one.result + more.refused;
      offered_all = (one.result, one.gate, more.refused, one.offer, refl, more.offered_all);
      memory = more.memory;
      frames = more.frames;
      repeated = more.repeated;
      offered = omega arith;
      counts = more.counts ∙ more_refused (refusal one.result) more.refused before.counts;
    }

offering : (before : State) (os : List Outgoing) (ready : State) → AreOfferedOneByOne before os ready → Offering before os ready
offering before [] ready u = record {
  refused = 0;
  offered_all = (refl, ap (λ (s : State). s.memory.gate) u);
  memory = ap (λ (s : State). s.memory) u
      ∙ ap (λ (g : Gate). record before.memory { gate = g }) (sym (ap (λ (s : State). s.memory.gate) u));
  frames = ap (λ (s : State). s.frames) u;
  repeated = ap (λ (s : State). s.repeated) u;
  offered = let same = ap (λ (s : State). s.offered) u in omega arith;
  counts = ap (λ (s : State). s.counts) u ∙ none_refused before.counts;
}
offering before (o ∷ os) ready u =
    offering_at before u.0 ready o os u.1 u.1.state
    (subst (λ (s : State). Offering s os ready) u.1.state (offering u.0 os ready u.2))

-- ---- all frames together
record Together (before : State) (offers : List (List Outgoing)) (frames : List UplinkSlots)
    (records : List (List (Option (List ℕ × List ℕ)))) (received : List (List Received)) (after : State) : Type 0 where
  sending : List (List (Option DownlinkBurst))
  givens : List FrameGiven
  passed : ArePassed before.memory offers frames sending givens after.memory
  encoded : AreSentAs (2 * before.frames) (slots_of sending) (records_of records)
  repeated : after.repeated ≡ before.repeated + repeated_count (slots_of sending)
  received_is : received ≡ map (λ (g : FrameGiven). g.received) givens
  counts : after.counts ≡ added before.counts (all_counted givens)

no_more : (c : Counts) → c ≡ added c nothing_counted
no_more c = same_counts c (added c nothing_counted) (omega arith) (omega arith) (omega arith) (omega arith) (omega arith)

-- a frame more is counted, with what is received in it
counted_on : (c : Counts) (refused : ℕ) (asked : Gate) (rest all : Counts) (now : Counts)
    → now ≡ with_outcomes (outcomes_to_tell asked) (with_refused refused c)
    → all ≡ added (record now { received = now.received + length (received_of asked) }) rest
    → all ≡ added c (added (counted_frame (given_of refused asked)) rest)
counted_on c refused asked rest all now is e =
    let own : Counts = with_outcomes (outcomes_to_tell asked) (with_refused refused c) in
    e ∙ ap (λ (n : Counts). added (record n { received = n.received + length (received_of asked) }) rest) is
    ∙ same_counts (added (record own { received = own.received + length (received_of asked) }) rest)
    (added c (added (counted_frame (given_of refused asked)) rest)) (omega arith) (omega arith) (omega arith) (omega arith) (omega
    arith)

cons_by : {X : Type 0} (a b : X) (more others : List X) → a ≡ b → more ≡ others → a ∷ more ≡ b ∷ others
cons_by a b more others e f = cc

passed_by : (before : State) (os : List Outgoing) (f : List (Option (List ℕ))) (ready next : State)
    (r : List (Option (List ℕ × List ℕ))) (o : Offering before os ready) (one : IsExchanged ready f r next)
    → IsPassed before.memory os f one.sending (given_of o.refused one.asked.gate) (all_received_taken next).memory
passed_by before os f ready next r o one = record {
  offers = ready.memory.gate;
  refused = o.refused;
  are_offered = o.offered_all;
  asked = one.asked;
  is_asked = subst (λ (m : StationMemory). IsAsked m f one.sending one.asked) o.memory one.is_asked;
  gives = refl;
  taken = ap (λ (m : StationMemory). record m { gate = received_taken m.gate }) one.memory;
}

-- telling what became of packets leaves what was received
told_received : (next : State) (asked : StationMemory) → next.memory ≡ record asked { gate = outcomes_told asked.gate }
    → received_of next.memory.gate ≡ received_of asked.gate
told_received next asked e = ap (λ (m : StationMemory). received_of m.gate) e

together : (before : State) (offers : List (List Outgoing)) (frames : List UplinkSlots)
    (records : List (List (Option (List ℕ × List ℕ)))) (received : List (List Received)) (after : State)
    → AreExchanged before offers frames records received after → Together before offers frames records received after
together before [] [] [] [] after u = record {
  sending = [];
  givens = [];
  passed = ap (λ (s : State). s.memory) u;
  encoded = tt;
  repeated = let same = ap (λ (s : State). s.repeated) u in omega arith;
  received_is = refl;
  counts = ap (λ (s : State). s.counts) u ∙ no_more before.counts;
}
together before [] (f ∷ frames) records received after u = absurd u
together before [] [] (r ∷ records) received after u = absurd u
together before [] [] [] (g ∷ received) after u = absurd u
together before (o ∷ offers) [] records received after u = absurd u
together before (o ∷ offers) (f ∷ frames) [] received after u = absurd u
together before (o ∷ offers) (f ∷ frames) (r ∷ records) [] after u = absurd u
together before (o ∷ offers) (f ∷ frames) (r ∷ records) (g ∷ received) after u =
    let ready : State = u.0 in
    let next : State = u.1 in
    let offers_made = offering before o ready u.2 in
    let one = u.3 in
    let more = together (all_received_taken next) offers frames records received after u.5 in
    let two = two_slots ready.memory f one.sending one.asked one.is_asked in
    let counted_frame = one.frames in
    let kept = offers_made.frames in
    let place : 2 * next.frames ≡ 2 * before.frames + length one.sending = omega arith in
    let start_place : 2 * ready.frames ≡ 2 * before.frames = omega arith in
    let slots = slots_of more.sending in
    let both : repeated_count (one.sending ++ slots) ≡ repeated_count one.sending + repeated_count slots =
    sum_by-append (λ slot. cond (is_repeated slot) 1 0) one.sending slots in
    let first = one.repeated in
    let before_it = offers_made.repeated in
    let rest = more.repeated in
    let told = told_received next one.asked one.memory in
    record {
      sending = one.sending ∷ more.sending;
      givens = given_of offers_made.refused one.asked.gate ∷ more.givens;
      passed = ((all_received_taken next).memory, passed_by before o f ready next r offers_made one, more.passed);
      encoded = encoded-append (2 * before.frames) one.sending slots r (records_of records)
          (subst (λ (p : ℕ). AreSentAs p one.sending r) start_place one.encoded)
          (subst (λ (p : ℕ). AreSentAs p slots (records_of records)) place more.encoded);
      repeated = omega arith;
      received_is = cons_by g _ received _ (u.4 ∙ told) more.received_is;
      counts = counted_on before.counts offers_made.refused one.asked.gate (all_counted more.givens) after.counts next.counts
          (one.counts ∙ ap (with_outcomes (outcomes_to_tell one.asked.gate)) offers_made.counts)
          (more.counts ∙ ap (λ (l : List Received). added (record next.counts { received = next.counts.received + length l })
          (all_counted more.givens)) told);
    }

-- how many datagrams were offered
abbrev pub offer_count : List (List Outgoing) → ℕ
offer_count [] = 0
offer_count (offered ∷ offers) = length offered + offer_count offers

-- a station counts all datagrams that it is offered
pub all_offered : (before : State) (offers : List (List Outgoing)) (frames : List UplinkSlots)
    (records : List (List (Option (List ℕ × List ℕ)))) (received : List (List Received)) (after : State)
    → AreExchanged before offers frames records received after → after.offered ≡ before.offered + offer_count offers
all_offered before [] [] [] [] after u = let same = ap (λ (s : State). s.offered) u in omega arith
all_offered before [] (f ∷ frames) records received after u = absurd u
all_offered before [] [] (r ∷ records) received after u = absurd u
all_offered before [] [] [] (g ∷ received) after u = absurd u
all_offered before (o ∷ offers) [] records received after u = absurd u
all_offered before (o ∷ offers) (f ∷ frames) [] received after u = absurd u
all_offered before (o ∷ offers) (f ∷ frames) (r ∷ records) [] after u = absurd u
all_offered before (o ∷ offers) (f ∷ frames) (r ∷ records) (g ∷ received) after u =
    let made = (offering before o u.0 u.2).offered in
    let kept = u.3.offered in
    let more = all_offered (all_received_taken u.1) offers frames records received after u.5 in
    omega arith

-- whatever frames a new station takes, and whatever it is offered, it gives what the rules make of them
pub sends_by_the_rules : SendsByTheRules
sends_by_the_rules s read offers frames records received after pairs slots u =
    let all = together (fresh s) read frames records received after u in
    let made = makes s read offers frames all.sending all.givens after.memory all.passed pairs slots in
    let counted_frame = all.repeated in
    let receipts : receipts_from 0 received ≡ receipts_from 0 (map (λ (g : FrameGiven). g.received) all.givens) =
    ap (receipts_from 0) all.received_is in
    let counts : after.counts ≡ all_counted all.givens = all.counts ∙ from_nothing (all_counted all.givens) in
    let moved : Makes s offers frames all.sending (receipts_from 0 received) after.counts =
    subst (λ l. Makes s offers frames all.sending l after.counts) (sym receipts)
    (subst (λ c. Makes s offers frames all.sending (receipts_from 0 (map (λ (g : FrameGiven). g.received) all.givens)) c)
    (sym counts) made) in
    record {
      sending = all.sending;
      makes = moved;
      repeats = omega arith;
      encoded = all.encoded;
      clean = sent_bursts_are_clean s.colour 0 (slots_of all.sending) (records_of records)
          (clean_made s offers frames all.sending (receipts_from 0 received) after.counts moved) all.encoded;
    }
  where
    from_nothing : (c : Counts) → added nothing_counted c ≡ c
    from_nothing c = same_counts (added nothing_counted c) c (omega arith) (omega arith) (omega arith) (omega arith) (omega arith)

-- ---- one part after another
pub exchanged-append : (a b c : State) (os more : List (List Outgoing)) (xs ys : List UplinkSlots)
    (r q : List (List (Option (List ℕ × List ℕ)))) (g h : List (List Received))
    → AreExchanged a os xs r g b → AreExchanged b more ys q h c → AreExchanged a (os ++ more) (xs ++ ys) (r ++ q) (g ++ h) c
exchanged-append a b c [] more [] ys [] q [] h u v = subst (λ (s : State). AreExchanged s more ys q h c) u v
exchanged-append a b c [] more (x ∷ xs) ys r q g h u v = absurd u
exchanged-append a b c [] more [] ys (s ∷ r) q g h u v = absurd u
exchanged-append a b c [] more [] ys [] q (t ∷ g) h u v = absurd u
exchanged-append a b c (o ∷ os) more [] ys r q g h u v = absurd u
exchanged-append a b c (o ∷ os) more (x ∷ xs) ys [] q g h u v = absurd u
exchanged-append a b c (o ∷ os) more (x ∷ xs) ys (s ∷ r) q [] h u v = absurd u
exchanged-append a b c (o ∷ os) more (x ∷ xs) ys (s ∷ r) q (t ∷ g) h u v =
    (u.0, u.1, u.2, u.3, u.4, exchanged-append (all_received_taken u.1) b c os more xs ys r q g h u.5 v)
