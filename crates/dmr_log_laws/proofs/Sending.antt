-- How many slots of the downlink repeat a burst: as many as the lines of both slots.
use Rattle.std.proofs.Common.{◌≡◌, ℕ, suc, ◌+◌, Bool, cond, List, [], ◌∷◌, length, map, zip, count_by}
use Rattle.std.proofs.Common.{take}
use Rattle.std.proofs.Common.{Option, Some, None, refl, ap, ◌∙◌, subst, arith, is_some}
use Rattle.std.proofs.lemmas.List.Concat.{flat_map-cons}
use Rattle.std.specs.List.{AllZip, list_any}
use Rattle.dmr_burst.specs.declared.burst.Burst.{Burst}
use Rattle.dmr_gateway.specs.Runs.{Happening}
use Rattle.dmr_link.specs.declared.full_lc.FullLc.{FullLc}
use Rattle.dmr_record.specs.Outgoing.{Sending}
use Rattle.dmr_record.specs.Received.{Receipt}
use Rattle.dmr_record.specs.Uplink.{UplinkSlots}
use Rattle.dmr_slot.specs.Bursts.{AreSent, IsChannelBurst}
use Rattle.dmr_slot.specs.ChannelMeaning.{Claim, channel_frames, claim_of, claims_of, has_traffic, slot_of}
use Rattle.dmr_slot.specs.declared.line.SlotOut.{SlotOut}
use Rattle.dmr_station.specs.Announced.{AreAnnounced}
use Rattle.dmr_station.specs.DownlinkRules.{Makes, frames_in, is_repeated, marked_frames, repeated_count, slots_of}
use Rattle.dmr_station.specs.GatewayMeaning.{AreGiven, Given}
use Rattle.dmr_station.specs.Sent.{DownlinkBurst, DownlinkSlots, SlotBursts}
use Rattle.dmr_station.specs.StationRules.{Counts, Settings, marked}
use Rattle.dmr_station.specs.declared.announcing.Message.{Message}
use Rattle.dmr_log_laws.proofs.Pushes.{bursts_of_outs}
use Rattle.dmr_log_laws.proofs.Slots.{counted_cons}

-- 1. One slot.

-- a slot is marked as repeated where its line repeats a burst
marked_so : (colour : ℕ) (on_air : Bool) (m : Message) (r h : Option Burst) (lc : Option FullLc) (gate b : Option Burst)
    → IsChannelBurst colour (slot_of on_air (claim_of (record { repeated = r; hang = h; lc = lc }) gate)) b
    → is_repeated (marked m (record { repeated = r; hang = h; lc = lc }) b) ≡ is_some r
marked_so colour on_air m None h lc gate None sent = refl
marked_so colour on_air m None h lc gate (Some b) sent = refl
marked_so colour on_air m (Some x) h lc gate b sent =
    ap (λ (y : Option Burst). is_repeated (marked m (record { repeated = Some x; hang = h; lc = lc }) y)) sent

-- 2. Frame by frame.

sums : (a b c d m n k x y : ℕ) → a ≡ c → b ≡ d → k ≡ m + n → x ≡ c + m → y ≡ d + n → a + (b + k) ≡ x + y
sums a b c d m n k x y p q r s t = omega (arith, p, q, r, s, t)

counted_frame : (x y : Option DownlinkBurst) (rest : List DownlinkSlots)
    → repeated_count (slots_of ((x ∷ y ∷ []) ∷ rest))
    ≡ cond (is_repeated x) 1 0 + (cond (is_repeated y) 1 0 + repeated_count (slots_of rest))
counted_frame x y rest =
    ap repeated_count (flat_map-cons (λ (frame : DownlinkSlots). frame) (x ∷ y ∷ []) rest)
    ∙ counted_cons is_repeated x (y ∷ slots_of rest)
    ∙ ap (λ (n : ℕ). cond (is_repeated x) 1 0 + n) (counted_cons is_repeated y (slots_of rest))

-- what the gateway has for both slots of each frame
abbrev gates_of : List Given → List Given → List SlotBursts
gates_of xs ys = map (λ (given : Given × Given). given.0.burst ∷ given.1.burst ∷ []) (zip xs ys)

abbrev all_claims : List SlotOut → List SlotOut → List SlotBursts → List (List Claim)
all_claims first second gates =
    map (λ (frame : List SlotOut × SlotBursts). claims_of frame.0 frame.1) (zip (frames_in first second) gates)

sent_so : (colour hang : ℕ) (back : List (List Claim)) (announced : List (List SlotOut)) (first second : List SlotOut)
    (xs ys : List Given) (bursts : List SlotBursts) (messages : List Message) → length second ≡ length first
    → length xs ≡ length first → length ys ≡ length first
    → AllZip (AreSent colour) (channel_frames hang back (all_claims first second (gates_of xs ys))) bursts
    → AreAnnounced announced (frames_in first second) messages
    → repeated_count (slots_of (marked_frames messages (frames_in first second) bursts))
    ≡ count_by is_some (bursts_of_outs first) + count_by is_some (bursts_of_outs second)
sent_so colour hang back announced [] [] xs ys bursts [] e f g sent a = refl
sent_so colour hang back announced [] [] xs ys bursts (m ∷ messages) e f g sent a = absurd a
sent_so colour hang back announced [] (b ∷ second) xs ys bursts messages e f g sent a = absurd (omega (arith, e))
sent_so colour hang back announced (a ∷ first) [] xs ys bursts messages e f g sent n = absurd (omega (arith, e))
sent_so colour hang back announced (a ∷ first) (b ∷ second) [] ys bursts messages e f g sent n = absurd (omega (arith, f))
sent_so colour hang back announced (a ∷ first) (b ∷ second) (x ∷ xs) [] bursts messages e f g sent n = absurd (omega (arith, g))
sent_so colour hang back announced (a ∷ first) (b ∷ second) (x ∷ xs) (y ∷ ys) bursts [] e f g sent n = absurd n
sent_so colour hang back announced (a ∷ first) (b ∷ second) (x ∷ xs) (y ∷ ys) [] (m ∷ messages) e f g sent n = absurd sent
sent_so colour hang back announced (a ∷ first) (b ∷ second) (x ∷ xs) (y ∷ ys) ([] ∷ bursts) (m ∷ messages) e f g sent n =
    absurd sent.0
sent_so colour hang back announced (a ∷ first) (b ∷ second) (x ∷ xs) (y ∷ ys) ((c ∷ []) ∷ bursts) (m ∷ messages) e f g sent n =
    absurd sent.0.1
sent_so colour hang back announced (a ∷ first) (b ∷ second) (x ∷ xs) (y ∷ ys) ((c ∷ d ∷ o ∷ more) ∷ bursts) (m ∷ messages) e f g
    sent n = absurd sent.0.1.1
sent_so colour hang back announced (a ∷ first) (b ∷ second) (x ∷ xs) (y ∷ ys) ((c ∷ d ∷ []) ∷ bursts) (m ∷ messages) e f g sent n =
    let frame : List Claim = claims_of (a ∷ b ∷ []) (x.burst ∷ y.burst ∷ []) in
    let on_air : Bool = list_any has_traffic (take (suc hang) (frame ∷ back)) in
    let one = marked_so colour on_air m a.repeated a.hang a.lc x.burst c sent.0.0 in
    let two = marked_so colour on_air m b.repeated b.hang b.lc y.burst d sent.0.1.0 in
    let rest = sent_so colour hang (frame ∷ back) ((a ∷ b ∷ []) ∷ announced) first second xs ys bursts messages
    (omega (arith, e)) (omega (arith, f)) (omega (arith, g)) sent.1 n.1 in
    counted_frame (marked m a c) (marked m b d) (marked_frames messages (frames_in first second) bursts)
    ∙ sums (cond (is_repeated (marked m a c)) 1 0) (cond (is_repeated (marked m b d)) 1 0) (cond (is_some a.repeated) 1 0)
    (cond (is_some b.repeated) 1 0) (count_by is_some (bursts_of_outs first)) (count_by is_some (bursts_of_outs second))
    (repeated_count (slots_of (marked_frames messages (frames_in first second) bursts)))
    (count_by is_some (bursts_of_outs (a ∷ first))) (count_by is_some (bursts_of_outs (b ∷ second)))
    (ap (λ (o : Bool). cond o 1 0) one) (ap (λ (o : Bool). cond o 1 0) two) rest
    (counted_cons is_some a.repeated (bursts_of_outs first)) (counted_cons is_some b.repeated (bursts_of_outs second))

-- 3. A run.

as_long : (s : Settings) (slot : ℕ) (back : List Happening) (offers : List (List Sending)) (outs : List SlotOut)
    (givens : List Given) → AreGiven s slot back offers outs givens
    → (length givens ≡ length outs) × (length outs ≡ length offers)
as_long s slot back [] [] [] u = (refl, refl)
as_long s slot back [] (out ∷ outs) givens u = absurd u
as_long s slot back [] [] (g ∷ givens) u = absurd u
as_long s slot back (o ∷ offers) [] givens u = absurd u
as_long s slot back (o ∷ offers) (out ∷ outs) [] u = absurd u
as_long s slot back (o ∷ offers) (out ∷ outs) (g ∷ givens) u =
    let more = as_long s slot (u.0 ∷ back) offers outs givens u.3 in
    let one = more.0 in
    let two = more.1 in (omega (arith, one), omega (arith, two))

-- what a run makes of frames repeats what the lines of both slots repeat
pub run_repeats : (s : Settings) (offers : List (List Sending)) (frames : List UplinkSlots) (sending : List DownlinkSlots)
    (receipts : List Receipt) (counts : Counts) (m : Makes s offers frames sending receipts counts)
    → repeated_count (slots_of sending) ≡ count_by is_some (bursts_of_outs m.first) + count_by is_some (bursts_of_outs m.second)
run_repeats s offers frames sending receipts counts m =
    let one = as_long s 1 [] offers m.first m.gateway.first_given m.gateway.first_slot in
    let two = as_long s 2 [] offers m.second m.gateway.second_given m.gateway.second_slot in
    let a = one.0 in
    let b = one.1 in
    let c = two.0 in
    let d = two.1 in
    let sent = subst (λ (gates : List SlotBursts). AllZip (AreSent s.colour)
    (channel_frames s.channel_hang [] (all_claims m.first m.second gates)) m.downlink.bursts) m.gateway.gates_are
    m.downlink.channel in
    ap (λ (l : List DownlinkSlots). repeated_count (slots_of l)) m.downlink.marks
    ∙ sent_so s.colour s.channel_hang [] [] m.first m.second m.gateway.first_given m.gateway.second_given m.downlink.bursts
    m.downlink.messages (omega (arith, b, d)) a (omega (arith, b, c, d)) sent m.downlink.announced
