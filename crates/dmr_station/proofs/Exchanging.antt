-- Frame after frame, what the gateway gives is what is meant in both slots.
use Rattle.std.proofs.Common.{◌≡◌, ℕ, ◌+◌, eqb, not, Bool, true, false, cond, List, [], ◌∷◌, ◌++◌, Option, is_some}
use Rattle.std.proofs.Common.{inl, inr, refl, sym, ◌∙◌, ap, subst, arith}
use Rattle.std.specs.Prelude.{option_to_list}
use Rattle.std.specs.List.{AllByRecursion}
use Rattle.std.proofs.lemmas.List.Sums.{sum_by-cons}
use Rattle.dmr_burst.specs.declared.burst.Burst.{Burst}
use Rattle.dmr_record.specs.Outgoing.{Sending}
use Rattle.dmr_record.specs.declared.outgoing.Outgoing.{Outgoing}
use Rattle.dmr_slot.specs.ChannelMeaning.{claims_of}
use Rattle.dmr_slot.specs.ChannelRules.{OnAir, frame_out, frames_out, after_frame}
use Rattle.dmr_slot.specs.Bursts.{AreSent}
use Rattle.dmr_slot.specs.LineRules.{LineMemory as Line, ArePushed}
use Rattle.dmr_slot.specs.declared.line.SlotOut.{SlotOut}
use Rattle.dmr_gateway.specs.GatewayRules.{Gate, IsSlot}
use Rattle.dmr_gateway.specs.AttemptMeaning.{refused_now}
use Rattle.dmr_gateway.specs.Runs.{Happening, brings}
use Rattle.dmr_gateway.specs.SideRules.{all_received, side_outcome}
use Rattle.dmr_gateway.specs.BothSlots.{SlotTurn, Stands, FrameAsMeant, IsFrameOfBothSlots}
use Rattle.dmr_gateway.proofs.BothSlots.{frames_as_meant}
use Rattle.dmr_station.specs.DownlinkRules.{slots_in, frames_in, marked_frames}
use Rattle.dmr_station.specs.GatewayMeaning.{AreForSlots}
use Rattle.dmr_record.specs.Outgoing.{AreReadFrom}
use Rattle.dmr_record.specs.Uplink.{UplinkSlots}
use Rattle.dmr_station.specs.GatewayMeaning.{record_fault, Given, AreGiven, Happens, IsGiven}
use Rattle.dmr_station.proofs.Frames.{gates_of, claims_in}
use Rattle.dmr_station.specs.StationRules.{Settings, StationMemory, IsAsked, is_free}
use Rattle.dmr_station.proofs.FrameAfterFrame.{FrameGiven, IsPassed, ArePassed, taken_of}
use Rattle.std.specs.List.{AllZip}
use Rattle.dmr_station.specs.declared.announcing.Message.{Message}
use Rattle.dmr_station.specs.Sent.{DownlinkBurst}
use Rattle.dmr_station.proofs.LookingBack.{Announces}
use Rattle.dmr_station.proofs.Offering.{offers_read, faults_read, of_slot, record_faults}

-- 1. Faults of both slots.

faults_cons : (s : Sending) (ss : List Sending) → record_faults (s ∷ ss) ≡ cond (is_some (record_fault s)) 1 0 + record_faults ss
faults_cons s ss = sum_by-cons (λ (x : Sending). cond (is_some (record_fault x)) 1 0) s ss

faults_at : (one two : Bool) (s : Sending) (ss : List Sending) → one ≡ not two
    → record_faults ss ≡ record_faults (of_slot 1 ss) + record_faults (of_slot 2 ss)
    → record_faults (s ∷ ss)
    ≡ record_faults (cond one (s ∷ of_slot 1 ss) (of_slot 1 ss)) + record_faults (cond two (s ∷ of_slot 2 ss) (of_slot 2 ss))
faults_at true false s ss e more =
    let a = faults_cons s ss in
    let b = faults_cons s (of_slot 1 ss) in omega (arith, a, b, more)
faults_at false true s ss e more =
    let a = faults_cons s ss in
    let b = faults_cons s (of_slot 2 ss) in omega (arith, a, b, more)
faults_at true true s ss e more = cc
faults_at false false s ss e more = cc

one_slot : (slot : ℕ) → IsSlot slot → eqb slot 1 ≡ not (eqb slot 2)
one_slot slot (inl e) = rw e refl
one_slot slot (inr e) = rw e refl

faults_of_both : (ss : List Sending) → AreForSlots ss
    → record_faults ss ≡ record_faults (of_slot 1 ss) + record_faults (of_slot 2 ss)
faults_of_both [] slots = refl
faults_of_both (s ∷ ss) slots =
    faults_at (eqb s.slot 1) (eqb s.slot 2) s ss (one_slot s.slot slots.0) (faults_of_both ss slots.1)

read_for_slots : (os : List Outgoing) (ss : List Sending) → AreReadFrom os ss → AreForSlots ss
    → AllByRecursion (λ o. IsSlot o.slot) os
read_for_slots [] [] pairs slots = tt
read_for_slots [] (s ∷ ss) pairs slots = absurd pairs
read_for_slots (o ∷ os) [] pairs slots = absurd pairs
read_for_slots (o ∷ os) (s ∷ ss) pairs slots =
    let same : o.slot ≡ s.slot = ap (λ (x : Sending). x.slot) pairs.0.fields in
    (subst IsSlot (sym same) slots.0, read_for_slots os ss pairs.1 slots.1)

-- 2. A frame.

-- what both slots give in a frame
abbrev pub given_in : Given → Given → FrameGiven
given_in a b =
    record {
      received = a.received ++ b.received;
      outcomes = option_to_list a.outcome ++ option_to_list b.outcome;
      refused = a.refused + b.refused;
    }

-- how many offers of the newest frame find the queue full
abbrev gateway_refused : Settings → List Happening → ℕ
gateway_refused s frames = refused_now s.queue s.llid (brings s.llid frames)

-- What one frame comes to, in both slots.
record Frame (s : Settings) (back_1 back_2 : List Happening) (offered : List Sending) (first second : SlotOut)
    (first_gate second_gate : Option Burst) (given : FrameGiven) (after : Gate) : Type 0 where
  one : Happening
  two : Happening
  one_happens : Happens s (of_slot 1 offered) first one
  two_happens : Happens s (of_slot 2 offered) second two
  one_given : Given
  two_given : Given
  one_is : IsGiven s 1 (one ∷ back_1) (of_slot 1 offered) one_given
  two_is : IsGiven s 2 (two ∷ back_2) (of_slot 2 offered) two_given
  one_burst : first_gate ≡ one_given.burst
  two_burst : second_gate ≡ two_given.burst
  both : given ≡ given_in one_given two_given
  stands : Stands s.colour s.llid s.queue (one ∷ back_1) (two ∷ back_2) after

frame : (s : Settings) (back_1 back_2 : List Happening) (m : StationMemory) (os : List Outgoing) (ss : List Sending)
    (f : List (Option (List ℕ))) (sending : List (Option DownlinkBurst)) (given : FrameGiven) (next : StationMemory)
    (p : IsPassed m os f sending given next) → Stands s.colour s.llid s.queue back_1 back_2 m.gate → AreReadFrom os ss
    → AreForSlots ss
    → Frame s back_1 back_2 ss p.is_asked.first p.is_asked.second p.is_asked.first_gate p.is_asked.second_gate given next.gate
frame s back_1 back_2 m os ss f sending given next p stands pairs slots =
    let a = p.is_asked in
    let one : SlotTurn = record { repeated = a.first.repeated; free = is_free a.first; burst = a.first_gate } in
    let two : SlotTurn = record { repeated = a.second.repeated; free = is_free a.second; burst = a.second_gate } in
    let by_calls : IsFrameOfBothSlots os one two p.refused m.gate p.asked.gate = record {
      slots = read_for_slots os ss pairs slots;
      offers = p.offers;
      are_offered = p.are_offered;
      between = a.between;
      first_asked = a.first_asked;
      second_asked = a.second_asked;
    } in
    let meant : FrameAsMeant s.colour s.llid s.queue back_1 back_2 os one two p.refused p.asked.gate =
    frames_as_meant s.colour s.llid s.queue back_1 back_2 os one two p.refused m.gate p.asked.gate stands by_calls in
    let one_refused : ℕ = record_faults (of_slot 1 ss) + gateway_refused s (meant.first_new ∷ back_1) in
    let two_refused : ℕ = record_faults (of_slot 2 ss) + gateway_refused s (meant.second_new ∷ back_2) in
    let one_given : Given = record {
      burst = a.first_gate;
      received = all_received p.asked.gate.first;
      outcome = side_outcome p.asked.gate.first;
      refused = one_refused;
    } in
    let two_given : Given = record {
      burst = a.second_gate;
      received = all_received p.asked.gate.second;
      outcome = side_outcome p.asked.gate.second;
      refused = two_refused;
    } in
    let sum : p.refused ≡ one_refused + two_refused =
    let all = meant.refusals in
    let read = faults_read os ss pairs in
    let apart = faults_of_both ss slots in
    omega (arith, all, read, apart) in
    record {
      one = meant.first_new;
      two = meant.second_new;
      one_happens = record {
        offers = offers_read s.llid 1 os ss meant.first_new.offers pairs meant.first_happened.offers;
        heard = meant.first_happened.heard;
        free = meant.first_happened.free;
      };
      two_happens = record {
        offers = offers_read s.llid 2 os ss meant.second_new.offers pairs meant.second_happened.offers;
        heard = meant.second_happened.heard;
        free = meant.second_happened.free;
      };
      one_given = one_given;
      two_given = two_given;
      one_is = record {
        burst = meant.first_gives.encoded;
        received = meant.first_gives.received_is;
        outcome = meant.first_gives.outcome_is;
        refused = refl;
      };
      two_is = record {
        burst = meant.second_gives.encoded;
        received = meant.second_gives.received_is;
        outcome = meant.second_gives.outcome_is;
        refused = refl;
      };
      one_burst = refl;
      two_burst = refl;
      both = p.gives ∙ ap (λ n. record (given_in one_given two_given) { refused = n }) sum;
      stands = subst (λ (g : Gate). Stands s.colour s.llid s.queue (meant.first_new ∷ back_1) (meant.second_new ∷ back_2) g)
          (sym (ap (λ (x : StationMemory). x.gate) p.taken)) meant.stands;
    }

-- 3. Frame after frame.

-- what both slots give, frame by frame
abbrev pub givens_of : List Given → List Given → List FrameGiven
givens_of [] second = []
givens_of (a ∷ first) [] = []
givens_of (a ∷ first) (b ∷ second) = given_in a b ∷ givens_of first second

-- What frames come to, in both slots, after those that happened before.
pub record Exchanged (s : Settings) (m : StationMemory) (back_1 back_2 : List Happening) (offers : List (List Sending))
    (frames : List UplinkSlots) (sending : List (List (Option DownlinkBurst)))
    (givens : List FrameGiven) : Type 0 where
  pub first : List SlotOut
  pub second : List SlotOut
  pub first_after : Line
  pub second_after : Line
  pub first_pushed : ArePushed m.first (slots_in 0 frames) first first_after
  pub second_pushed : ArePushed m.second (slots_in 1 frames) second second_after
  pub first_given : List Given
  pub second_given : List Given
  pub first_slot : AreGiven s 1 back_1 offers first first_given
  pub second_slot : AreGiven s 2 back_2 offers second second_given
  pub bursts : List (List (Option Burst))
  pub channel : AllZip (AreSent m.channel.colour)
      (frames_out m.channel (claims_in (frames_in first second) (gates_of first_given second_given))) bursts
  pub messages : List Message
  pub announces : Announces m.kept (frames_in first second) messages
  pub marks : sending ≡ marked_frames messages (frames_in first second) bursts
  pub both : givens ≡ givens_of first_given second_given

cons_by : {X : Type 0} (a b : X) (more others : List X) → a ≡ b → more ≡ others → a ∷ more ≡ b ∷ others
cons_by a b more others e f = cc

-- with the bursts of the gateway as both slots give them
claimed : (m : StationMemory) (f : List (Option (List ℕ))) (x : List (Option DownlinkBurst)) (asked : StationMemory) (a : IsAsked m
    f x asked)
    (one two : Option Burst) → a.first_gate ≡ one → a.second_gate ≡ two
    → AreSent m.channel.colour (frame_out m.channel (claims_of (a.first ∷ a.second ∷ []) (one ∷ two ∷ []))) a.bursts
claimed m f x asked a one two e g =
    subst (λ (l : List (Option Burst)). AreSent m.channel.colour
    (frame_out m.channel (claims_of (a.first ∷ a.second ∷ []) l)) a.bursts)
    (ap (λ (o : Option Burst). o ∷ a.second_gate ∷ []) e ∙ ap (λ (o : Option Burst). one ∷ o ∷ []) g) a.sent

channel_after : (m : StationMemory) (f : List (Option (List ℕ))) (x : List (Option DownlinkBurst)) (asked : StationMemory)
    (a : IsAsked m f x asked) (one two : Option Burst) → a.first_gate ≡ one → a.second_gate ≡ two
    → asked.channel ≡ after_frame m.channel (claims_of (a.first ∷ a.second ∷ []) (one ∷ two ∷ []))
channel_after m f x asked a one two e g =
    a.channel
    ∙ ap (λ (l : List (Option Burst)). after_frame m.channel (claims_of (a.first ∷ a.second ∷ []) l))
    (ap (λ (o : Option Burst). o ∷ a.second_gate ∷ []) e ∙ ap (λ (o : Option Burst). one ∷ o ∷ []) g)

-- From where a gateway stands, frames come to what the lines, the gateway and the channel give in both slots.
pub exchanged : (s : Settings) (back_1 back_2 : List Happening) (m : StationMemory) (oss : List (List Outgoing))
    (offers : List (List Sending)) (frames : List UplinkSlots) (sending : List (List (Option DownlinkBurst)))
    (givens : List FrameGiven) (after : StationMemory) → ArePassed m oss frames sending givens after
    → Stands s.colour s.llid s.queue back_1 back_2 m.gate → AllZip AreReadFrom oss offers → AllByRecursion AreForSlots offers
    → Exchanged s m back_1 back_2 offers frames sending givens
exchanged s back_1 back_2 m [] [] [] [] [] after u stands pairs slots = record {
  first = [];
  second = [];
  first_after = m.first;
  second_after = m.second;
  first_pushed = refl;
  second_pushed = refl;
  first_given = [];
  second_given = [];
  first_slot = tt;
  second_slot = tt;
  bursts = [];
  channel = tt;
  messages = [];
  announces = tt;
  marks = refl;
  both = refl;
}
exchanged s back_1 back_2 m [] (ss ∷ offers) frames sending givens after u stands pairs slots = absurd pairs
exchanged s back_1 back_2 m [] [] (f ∷ fs) sending givens after u stands pairs slots = absurd u
exchanged s back_1 back_2 m [] [] [] (x ∷ xs) givens after u stands pairs slots = absurd u
exchanged s back_1 back_2 m [] [] [] [] (g ∷ gs) after u stands pairs slots = absurd u
exchanged s back_1 back_2 m (os ∷ oss) [] frames sending givens after u stands pairs slots = absurd pairs
exchanged s back_1 back_2 m (os ∷ oss) (ss ∷ offers) [] sending givens after u stands pairs slots = absurd u
exchanged s back_1 back_2 m (os ∷ oss) (ss ∷ offers) (f ∷ fs) [] givens after u stands pairs slots = absurd u
exchanged s back_1 back_2 m (os ∷ oss) (ss ∷ offers) (f ∷ fs) (x ∷ xs) [] after u stands pairs slots = absurd u
exchanged s back_1 back_2 m (os ∷ oss) (ss ∷ offers) (f ∷ fs) (x ∷ xs) (g ∷ gs) after u stands pairs slots =
    let p : IsPassed m os f x g u.0 = u.1 in
    let a = p.is_asked in
    let now = frame s back_1 back_2 m os ss f x g u.0 p stands pairs.0 slots.0 in
    let more : Exchanged s u.0 (now.one ∷ back_1) (now.two ∷ back_2) offers fs xs gs =
    exchanged s (now.one ∷ back_1) (now.two ∷ back_2) u.0 oss offers fs xs gs after u.2 now.stands pairs.1 slots.1 in
    let moved : u.0 ≡ taken_of p.asked = p.taken in
    record {
      first = a.first ∷ more.first;
      second = a.second ∷ more.second;
      first_after = more.first_after;
      second_after = more.second_after;
      first_pushed = (
        p.asked.first,
        a.first_line,
        subst (λ (l : Line). ArePushed l (slots_in 0 fs) more.first more.first_after) (ap (λ (k : StationMemory). k.first) moved)
            more.first_pushed,
      );
      second_pushed = (
        p.asked.second,
        a.second_line,
        subst (λ (l : Line). ArePushed l (slots_in 1 fs) more.second more.second_after) (ap (λ (k : StationMemory). k.second) moved)
            more.second_pushed,
      );
      first_given = now.one_given ∷ more.first_given;
      second_given = now.two_given ∷ more.second_given;
      first_slot = (now.one, now.one_happens, now.one_is, more.first_slot);
      second_slot = (now.two, now.two_happens, now.two_is, more.second_slot);
      bursts = a.bursts ∷ more.bursts;
      channel = (
        claimed (record m { gate = p.offers }) f x p.asked a now.one_given.burst now.two_given.burst now.one_burst now.two_burst,
        subst (λ (c : OnAir). AllZip (AreSent c.colour)
            (frames_out c (claims_in (frames_in more.first more.second) (gates_of more.first_given more.second_given))) more.bursts)
            (ap (λ (k : StationMemory). k.channel) moved
            ∙ channel_after (record m { gate = p.offers }) f x p.asked a now.one_given.burst now.two_given.burst now.one_burst
            now.two_burst) more.channel,
      );
      messages = a.message ∷ more.messages;
      announces = (
        p.asked.kept,
        a.announces,
        subst (λ (k : Option Message). Announces k (frames_in more.first more.second) more.messages)
            (ap (λ (k : StationMemory). k.kept) moved) more.announces,
      );
      marks = cons_by x _ xs _ a.marks more.marks;
      both = cons_by g _ gs _ now.both more.both;
    }
