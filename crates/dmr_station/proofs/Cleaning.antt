-- What is sent of clean bursts is clean, and so is what the rules make of any frames.
use Rattle.std.proofs.Common.{◌≡◌, ℕ, suc, ◌+◌, ◌%◌, ◌==◌, Bool, List, [], ◌∷◌, Option, Some, None, slice_index_or, length, map}
use Rattle.std.proofs.Common.{refl, sym, ap, ◌∙◌, subst, arith}
use Rattle.std.proofs.lemmas.List.{length-map}
use Rattle.dmr_burst.specs.declared.burst.Burst.{Burst}
use Rattle.dmr_slot.specs.ChannelMeaning.{Claim, ChannelOut, claims_of, channel_frames}
use Rattle.dmr_slot.proofs.Channels.{has_traffic_within, frame_of}
use Rattle.dmr_slot.specs.Clean.{AreCleanBursts, line_burst}
use Rattle.dmr_slot.specs.Bursts.{AreSent}
use Rattle.dmr_slot.specs.LineRules.{LineMemory as Line, ArePushed}
use Rattle.dmr_slot.specs.declared.line.SlotOut.{SlotOut}
use Rattle.dmr_slot.proofs.CleanLines.{pushed_lines_are_clean}
use Rattle.dmr_slot.proofs.Cleaning.{ArePairs, AllFramesSent, both_clean, firsts, frame_claims, seconds}
use Rattle.dmr_station.specs.Announced.{AreAnnounced}
use Rattle.dmr_station.specs.declared.announcing.Message.{Message}
use Rattle.dmr_station.specs.Sent.{DownlinkBurst}
use Rattle.dmr_station.specs.Clean.{AreCleanSlots, IsCleanCach, IsCleanDownlink, IsEncodedAs, burst_sent, bursts_in, first_slots}
use Rattle.dmr_station.specs.Clean.{second_slots}
use Rattle.dmr_station.specs.DownlinkRules.{Makes, slots_of, slots_in, frames_in, marked_frames}
use Rattle.dmr_record.specs.Outgoing.{Sending}
use Rattle.dmr_record.specs.Received.{Receipt}
use Rattle.dmr_gateway.specs.Runs.{Happening}
use Rattle.dmr_record.specs.Uplink.{UplinkSlots}
use Rattle.dmr_station.specs.GatewayMeaning.{Given, AreGiven}
use Rattle.dmr_station.proofs.Frames.{slot_in, gates_of, claims_in}
use Rattle.dmr_station.specs.StationRules.{Settings, Counts, marked}
use Rattle.dmr_station.proofs.CleanGate.{clean_givens, gate_pairs, first_gates, second_gates}
use Rattle.dmr_station.proofs.FramesBySlot.{given_length}
use Rattle.std.specs.List.{AllZip}
use Rattle.dmr_station.specs.Sent.{fragment_lcss, IsCachOf, IsSentAs, AreSentAs}

-- ---- any bursts
clean_cach : (busy : Bool) (m : Message) (place : ℕ) (octets : List ℕ) → IsCachOf busy m place octets → IsCleanCach octets
clean_cach busy m place octets u = record {
  at = busy;
  tc =
      (place % 2 == 1);
  lcss = fragment_lcss place;
  fragment = slice_index_or u.0 (place % 4) [];
  fields = u.2;
}

encoded_slot : (place : ℕ) (slot : Option DownlinkBurst) (sent : Option (List ℕ × List ℕ)) → IsSentAs place slot sent
    → IsEncodedAs (burst_sent slot) sent
encoded_slot place None sent u = u
encoded_slot place (Some d) None u = absurd u
encoded_slot place (Some d) (Some s) u = (clean_cach d.is_repeated d.message place s.0 u.announces, u.encodes)

encoded_slots : (place : ℕ) (slots : List (Option DownlinkBurst)) (sent : List (Option (List ℕ × List ℕ)))
    → AreSentAs place slots sent → AllZip IsEncodedAs (bursts_in slots) sent
encoded_slots place [] [] u = tt
encoded_slots place [] (s ∷ more) u = absurd u
encoded_slots place (slot ∷ slots) [] u = absurd u
encoded_slots place (slot ∷ slots) (s ∷ more) u = (encoded_slot place slot s u.0, encoded_slots (place + 1) slots more u.1)

-- what is sent for slots of clean bursts may be transmitted
pub sent_bursts_are_clean : (colour place : ℕ) (slots : List (Option DownlinkBurst)) (sent : List (Option (List ℕ × List ℕ)))
    → AreCleanSlots colour (bursts_in slots)
    → AreSentAs place slots sent → IsCleanDownlink colour sent
sent_bursts_are_clean colour place slots sent clean u =
    record { bursts = bursts_in slots; encoded = encoded_slots place slots sent u; clean = clean }

-- ---- both slots, side by side
long_line : (m : Line) (slots : List (Option (List ℕ))) (outs : List SlotOut) (after : Line) → ArePushed m slots outs after
    → length outs ≡ length slots
long_line m [] [] after u = refl
long_line m [] (out ∷ outs) after u = absurd u
long_line m (slot ∷ slots) [] after u = absurd u
long_line m (slot ∷ slots) (out ∷ outs) after u = ap suc (long_line u.0 slots outs after u.2)

pairs_in : (first second : List SlotOut) → ArePairs (frames_in first second)
pairs_in [] second = tt
pairs_in (a ∷ first) [] = tt
pairs_in (a ∷ first) (b ∷ second) = (refl, pairs_in first second)

firsts_in : (first second : List SlotOut) → length first ≡ length second → firsts (frames_in first second) ≡ first
firsts_in [] second e = refl
firsts_in (a ∷ first) [] e = absurd (omega (arith, e))
firsts_in (a ∷ first) (b ∷ second) e = ap (λ (outs : List SlotOut). a ∷ outs) (firsts_in first second (omega (arith, e)))

seconds_in : (first second : List SlotOut) → length first ≡ length second → seconds (frames_in first second) ≡ second
seconds_in [] [] e = refl
seconds_in [] (b ∷ second) e = absurd (omega (arith, e))
seconds_in (a ∷ first) [] e = absurd (omega (arith, e))
seconds_in (a ∷ first) (b ∷ second) e = ap (λ (outs : List SlotOut). b ∷ outs) (seconds_in first second (omega (arith, e)))

same_claims : (outs : List (List SlotOut)) (gates : List (List (Option Burst))) → claims_in outs gates ≡ frame_claims outs gates
same_claims [] gates = refl
same_claims (slots ∷ outs) [] = refl
same_claims (slots ∷ outs) (gate ∷ gates) =
    ap (λ (claims : List (List Claim)). claims_of slots gate ∷ claims) (same_claims outs gates)

-- the frames of both slots, and of both slots of the gateway, are as many as those in which datagrams are offered
outs_length : (s : Settings) (slot : ℕ) (back : List Happening) (offers : List (List Sending)) (outs : List SlotOut)
    (givens : List Given) → AreGiven s slot back offers outs givens → length outs ≡ length offers
outs_length s slot back [] [] [] u = refl
outs_length s slot back [] (out ∷ outs) givens u = absurd u
outs_length s slot back [] [] (g ∷ givens) u = absurd u
outs_length s slot back (o ∷ offers) [] givens u = absurd u
outs_length s slot back (o ∷ offers) (out ∷ outs) [] u = absurd u
outs_length s slot back (o ∷ offers) (out ∷ outs) (g ∷ givens) u =
    let more = outs_length s slot (u.0 ∷ back) offers outs givens u.3 in omega (arith, more)

frames_length : (first second : List SlotOut) → length first ≡ length second → length (frames_in first second) ≡ length first
frames_length [] second e = refl
frames_length (a ∷ first) [] e = absurd (omega (arith, e))
frames_length (a ∷ first) (b ∷ second) e = let more = frames_length first second (omega (arith, e)) in omega (arith, more)

gates_length : (first second : List Given) → length first ≡ length second → length (gates_of first second) ≡ length first
gates_length [] second e = refl
gates_length (a ∷ first) [] e = absurd (omega (arith, e))
gates_length (a ∷ first) (b ∷ second) e = let more = gates_length first second (omega (arith, e)) in omega (arith, more)

all_frames_sent : (colour : ℕ) (frames : List (List ChannelOut)) (bursts : List (List (Option Burst)))
    → AllZip (AreSent colour) frames bursts → AllFramesSent colour frames bursts
all_frames_sent colour [] [] u = tt
all_frames_sent colour [] (sent ∷ bursts) u = absurd u
all_frames_sent colour (frame ∷ frames) [] u = absurd u
all_frames_sent colour (frame ∷ frames) (sent ∷ bursts) u = (u.0, all_frames_sent colour frames bursts u.1)

-- ---- what goes out, slot by slot
burst_in_marked : (m : Message) (out : SlotOut) (burst : Option Burst) → burst_sent (marked m out burst) ≡ burst
burst_in_marked m out None = refl
burst_in_marked m out (Some burst) = refl

-- in a frame of two slots what is sent is for two slots
pub two_sent : (colour : ℕ) (on_air : Bool) (a b : SlotOut) (g h : Option Burst) (sent : List (Option Burst))
    → AreSent colour (frame_of on_air (claims_of (a ∷ b ∷ []) (g ∷ h ∷ []))) sent → length sent ≡ 2
two_sent colour on_air a b g h [] u = absurd u
two_sent colour on_air a b g h (x ∷ []) u = absurd u.1
two_sent colour on_air a b g h (x ∷ y ∷ []) u = refl
two_sent colour on_air a b g h (x ∷ y ∷ z ∷ more) u = absurd u.1.1

cons_by : (a b : Option Burst) (more others : List (Option Burst)) → a ≡ b → more ≡ others → a ∷ more ≡ b ∷ others
cons_by a b more others e f = cc

record SlotBySlot (messages : List Message) (first second : List SlotOut) (bursts : List (List (Option Burst))) : Type 0 where
  first_is : first_slots (bursts_in (slots_of (marked_frames messages (frames_in first second) bursts))) ≡ firsts bursts
  second_is : second_slots (bursts_in (slots_of (marked_frames messages (frames_in first second) bursts))) ≡ seconds bursts

one_more : (m : Message) (messages : List Message) (a b : SlotOut) (first second : List SlotOut) (sent : List (Option Burst))
    (bursts : List (List (Option Burst))) → length sent ≡ 2 → SlotBySlot messages first second bursts
    → SlotBySlot (m ∷ messages) (a ∷ first) (b ∷ second) (sent ∷ bursts)
one_more m messages a b first second [] bursts two u = absurd (omega (arith, two))
one_more m messages a b first second (x ∷ []) bursts two u = absurd (omega (arith, two))
one_more m messages a b first second (x ∷ y ∷ z ∷ more) bursts two u = absurd (omega (arith, two))
one_more m messages a b first second (x ∷ y ∷ []) bursts two u = record {
  first_is = cons_by _ x _ _ (burst_in_marked m a x) u.first_is;
  second_is = cons_by _ y _ _ (burst_in_marked m b y) u.second_is;
}

slot_by_slot : (colour hang : ℕ) (back : List (List Claim)) (past : List (List SlotOut)) (messages : List Message)
    (first second : List SlotOut) (one two : List Given) (bursts : List (List (Option Burst)))
    → AreAnnounced past (frames_in first second) messages
    → AllZip (AreSent colour) (channel_frames hang back (claims_in (frames_in first second) (gates_of one two))) bursts
    → length (frames_in first second) ≡ length (gates_of one two) → SlotBySlot messages first second bursts
slot_by_slot colour hang back past [] [] second one two [] v u e = record { first_is = refl; second_is = refl }
slot_by_slot colour hang back past (m ∷ messages) [] second one two [] v u e = absurd v
slot_by_slot colour hang back past messages [] second one two (sent ∷ bursts) v u e = absurd u
slot_by_slot colour hang back past [] (a ∷ first) [] one two [] v u e = record { first_is = refl; second_is = refl }
slot_by_slot colour hang back past (m ∷ messages) (a ∷ first) [] one two [] v u e = absurd v
slot_by_slot colour hang back past messages (a ∷ first) [] one two (sent ∷ bursts) v u e = absurd u
slot_by_slot colour hang back past messages (a ∷ first) (b ∷ second) [] two bursts v u e = absurd (omega (arith, e))
slot_by_slot colour hang back past messages (a ∷ first) (b ∷ second) (g ∷ one) [] bursts v u e = absurd (omega (arith, e))
slot_by_slot colour hang back past messages (a ∷ first) (b ∷ second) (g ∷ one) (h ∷ two) [] v u e = absurd u
slot_by_slot colour hang back past [] (a ∷ first) (b ∷ second) (g ∷ one) (h ∷ two) (sent ∷ bursts) v u e = absurd v
slot_by_slot colour hang back past (m ∷ messages) (a ∷ first) (b ∷ second) (g ∷ one) (h ∷ two) (sent ∷ bursts) v u e =
    let frame : List Claim = claims_of (a ∷ b ∷ []) (g.burst ∷ h.burst ∷ []) in
    one_more m messages a b first second sent bursts
    (two_sent colour (has_traffic_within (suc hang) (frame ∷ back)) a b g.burst h.burst sent u.0)
    (slot_by_slot colour hang (frame ∷ back) ((a ∷ b ∷ []) ∷ past) messages first second one two bursts v.1 u.1 (omega (arith, e)))

-- ---- what the rules make
pub clean_made : (s : Settings) (offers : List (List Sending)) (frames : List UplinkSlots)
    (sending : List (List (Option DownlinkBurst))) (receipts : List Receipt) (counts : Counts)
    → Makes s offers frames sending receipts counts
    → AreCleanSlots s.colour (bursts_in (slots_of sending))
clean_made s offers frames sending receipts counts u =
    let outs : List (List SlotOut) = frames_in u.first u.second in
    let one : List Given = u.gateway.first_given in
    let two : List Given = u.gateway.second_given in
    let bursts = u.downlink.bursts in
    let long : length u.first ≡ length u.second =
    long_line _ (slots_in 0 frames) u.first u.first_line.after u.first_line.pushed ∙ length-map frames (slot_in 0)
    ∙ sym (long_line _ (slots_in 1 frames) u.second u.second_line.after u.second_line.pushed ∙ length-map frames (slot_in 1)) in
    let one_long = given_length s 1 [] offers u.first one u.gateway.first_slot in
    let two_long = given_length s 2 [] offers u.second two u.gateway.second_slot in
    let out_long = outs_length s 1 [] offers u.first one u.gateway.first_slot in
    let as_long : length outs ≡ length (gates_of one two) =
    frames_length u.first u.second long ∙ out_long ∙ sym (gates_length one two (one_long ∙ sym two_long) ∙ one_long) in
    let clean_first = pushed_lines_are_clean s.colour s.call_hang (slots_in 0 frames) u.first u.first_line.after
    u.first_line.pushed in
    let clean_second = pushed_lines_are_clean s.colour s.call_hang (slots_in 1 frames) u.second u.second_line.after
    u.second_line.pushed in
    let channel : AllZip (AreSent s.colour) (channel_frames s.channel_hang [] (claims_in outs (gates_of one two))) bursts =
    subst (λ (gates : List (List (Option Burst))). AllZip (AreSent s.colour)
    (channel_frames s.channel_hang [] (claims_in outs gates)) bursts)
    u.gateway.gates_are u.downlink.channel in
    let sent = all_frames_sent s.colour (channel_frames s.channel_hang [] (claims_in outs (gates_of one two))) bursts channel in
    let both = both_clean s.colour s.channel_hang [] outs (gates_of one two) bursts as_long (pairs_in u.first u.second)
    (gate_pairs one two)
    (subst (λ (line : List SlotOut). AreCleanBursts s.colour (map line_burst line)) (sym
    (firsts_in u.first u.second long)) clean_first)
    (subst (λ (line : List SlotOut). AreCleanBursts s.colour (map line_burst line)) (sym
    (seconds_in u.first u.second long)) clean_second)
    (first_gates s.colour one two (clean_givens s 1 [] offers u.first one u.gateway.first_slot))
    (second_gates s.colour one two (clean_givens s 2 [] offers u.second two u.gateway.second_slot))
    (subst (λ (claims : List (List Claim)). AllFramesSent s.colour (channel_frames s.channel_hang [] claims) bursts)
    (same_claims outs (gates_of one two)) sent) in
    let slots = slot_by_slot s.colour s.channel_hang [] [] u.downlink.messages u.first u.second one two bursts u.downlink.announced
    channel as_long in
    subst (λ (out : List (List (Option DownlinkBurst))). AreCleanSlots s.colour (bursts_in (slots_of out))) (sym u.downlink.marks)
    (record {
      first = subst (AreCleanBursts s.colour) (sym slots.first_is) both.first;
      second = subst (AreCleanBursts s.colour) (sym slots.second_is) both.second;
    })
