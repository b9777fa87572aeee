-- What is sent and received in the first so many frames of what is meant is a front of what is sent and received in all of them:
-- each list that is made frame by frame, cut down to so many frames, is what is made of the others, cut down to as many.
use Rattle.std.proofs.Common.{◌≡◌, ℕ, zero, suc, ◌+◌, ◌==◌, ◌≤◌, List, [], ◌∷◌, ◌++◌, length, map, filter, take, drop, Option, refl}
use Rattle.std.proofs.Common.{sym, ◌∙◌, ap, subst, arith, append_assoc, take-append-drop}
use Rattle.std.specs.List.{AllZip, list_any, take-map}
use Rattle.std.specs.Prelude.{zip}
use Rattle.std.proofs.lemmas.List.{length-take}
use Rattle.std.proofs.lemmas.Slice.Zip.{AllZip-long}
use Rattle.dmr_burst.specs.declared.burst.Burst.{Burst}
use Rattle.dmr_gateway.specs.Runs.{Happening}
use Rattle.dmr_record.specs.Outgoing.{Sending}
use Rattle.dmr_record.specs.Received.{Receipt}
use Rattle.dmr_record.specs.Uplink.{UplinkSlots}
use Rattle.dmr_slot.proofs.Unique.{one_slot_out}
use Rattle.dmr_slot.specs.Bursts.{IsSlotOut, AreSent}
use Rattle.dmr_slot.specs.ChannelMeaning.{Claim, ChannelOut, claims_of, has_traffic, slot_of, channel_frames}
use Rattle.dmr_slot.specs.LineMeaning.{LineOut}
use Rattle.dmr_slot.specs.declared.line.SlotOut.{SlotOut}
use Rattle.dmr_voice.specs.CallMeaning.{Cell}
use Rattle.dmr_station.proofs.Encodings.{one_encoding}
use Rattle.dmr_station.proofs.Frames.{gates_of, claims_in}
use Rattle.dmr_station.proofs.FramesBySlot.{one_downlink}
use Rattle.dmr_station.proofs.OneResult.{zip_alike, givens_alike}
use Rattle.dmr_station.specs.Announced.{AreAnnounced}
use Rattle.dmr_station.specs.DownlinkMeaning.{IsDownlinkOfWhatIsMeant, IsFrontOfTheDownlink, line_of_meaning}
use Rattle.dmr_station.specs.DownlinkRules.{IsDownlinkOf, slots_in, frames_in, marked_frames}
use Rattle.dmr_station.specs.GatewayMeaning.{Given, AreGiven, by_frame, receipt_in, receipts_of}
use Rattle.dmr_station.specs.Sent.{DownlinkBurst, AreSentAs}
use Rattle.dmr_station.specs.StationRules.{Settings, Counts, marked_slots}
use Rattle.dmr_station.specs.declared.announcing.Message.{Message}

-- A list begins with this front.
abbrev pub IsFrontOf : {X : Type 0} → List X → List X → Type 0
IsFrontOf {X} xs ys = (rest : List X) × (ys ≡ xs ++ rest)

-- the first so many items are a front
front_from_take : {X : Type 0} (count : ℕ) (xs ys : List X) → xs ≡ take count ys → IsFrontOf xs ys
front_from_take count xs ys e = (drop count ys, sym (take-append-drop count ys) ∙ ap (λ l. l ++ drop count ys) (sym e))

-- ---- lists that are made place by place: cut down before or after, they are one
cut_zip : {X Y : Type 0} (count : ℕ) (xs : List X) (ys : List Y) → zip (take count xs) (take count ys) ≡ take count (zip xs ys)
cut_zip zero xs ys = refl
cut_zip (suc count) [] ys = refl
cut_zip (suc count) (x ∷ xs) [] = refl
cut_zip (suc count) (x ∷ xs) (y ∷ ys) = ap (λ l. (x, y) ∷ l) (cut_zip count xs ys)

cut_gates : (count : ℕ) (first second : List Given)
    → gates_of (take count first) (take count second) ≡ take count (gates_of first second)
cut_gates count first second =
    let gate : Given × Given → List (Option Burst) = λ given. given.0.burst ∷ given.1.burst ∷ [] in
    ap (map gate) (cut_zip count first second) ∙ sym (take-map gate count (zip first second))

cut_frames : (count : ℕ) (first second : List SlotOut)
    → frames_in (take count first) (take count second) ≡ take count (frames_in first second)
cut_frames zero first second = refl
cut_frames (suc count) [] second = refl
cut_frames (suc count) (a ∷ first) [] = refl
cut_frames (suc count) (a ∷ first) (b ∷ second) = ap (λ l. (a ∷ b ∷ []) ∷ l) (cut_frames count first second)

cut_claims : (count : ℕ) (outs : List (List SlotOut)) (gates : List (List (Option Burst)))
    → claims_in (take count outs) (take count gates) ≡ take count (claims_in outs gates)
cut_claims count outs gates =
    let claims : List SlotOut × List (Option Burst) → List Claim = λ frame. claims_of frame.0 frame.1 in
    ap (map claims) (cut_zip count outs gates) ∙ sym (take-map claims count (zip outs gates))

-- what is on the air looks back only, so the frames behind change nothing
cut_channel : (count hang : ℕ) (back frames : List (List Claim))
    → channel_frames hang back (take count frames) ≡ take count (channel_frames hang back frames)
cut_channel zero hang back frames = refl
cut_channel (suc count) hang back [] = refl
cut_channel (suc count) hang back (frame ∷ frames) =
    let on_air = list_any has_traffic (take (suc hang) (frame ∷ back)) in
    ap (λ l. map (slot_of on_air) frame ∷ l) (cut_channel count hang (frame ∷ back) frames)

cut_marked : (count : ℕ) (messages : List Message) (outs : List (List SlotOut)) (bursts : List (List (Option Burst)))
    → marked_frames (take count messages) (take count outs) (take count bursts) ≡ take count (marked_frames messages outs bursts)
cut_marked zero messages outs bursts = refl
cut_marked (suc count) [] outs bursts = refl
cut_marked (suc count) (m ∷ messages) [] bursts = refl
cut_marked (suc count) (m ∷ messages) (out ∷ outs) [] = refl
cut_marked (suc count) (m ∷ messages) (out ∷ outs) (frame ∷ bursts) =
    ap (λ l. marked_slots m out frame ∷ l) (cut_marked count messages outs bursts)

-- fewer frames have the first of the offers
cut_offers : (frame count total : ℕ) (sendings : List Sending) → count ≤ total
    → take count (by_frame frame total sendings) ≡ by_frame frame count sendings
cut_offers frame zero total sendings few = refl
cut_offers frame (suc count) zero sendings few = absurd (omega (arith, few))
cut_offers frame (suc count) (suc total) sendings few =
    ap (λ l. filter (λ s. s.frame == frame) sendings ∷ l) (cut_offers (frame + 1) count total sendings (omega (arith, few)))

-- ---- what holds place by place holds of the first so many places
cut_pairs : {A B : Type 0} (R : A → B → Type 0) (count : ℕ) (xs : List A) (ys : List B) → AllZip R xs ys
    → AllZip R (take count xs) (take count ys)
cut_pairs R zero xs ys u = tt
cut_pairs R (suc count) [] [] u = tt
cut_pairs R (suc count) [] (y ∷ ys) u = absurd u
cut_pairs R (suc count) (x ∷ xs) [] u = absurd u
cut_pairs R (suc count) (x ∷ xs) (y ∷ ys) u = (u.0, cut_pairs R count xs ys u.1)

cut_announced : (count : ℕ) (back frames : List (List SlotOut)) (messages : List Message) → AreAnnounced back frames messages
    → AreAnnounced back (take count frames) (take count messages)
cut_announced zero back frames messages u = tt
cut_announced (suc count) back [] [] u = tt
cut_announced (suc count) back [] (m ∷ messages) u = absurd u
cut_announced (suc count) back (outs ∷ frames) [] u = absurd u
cut_announced (suc count) back (outs ∷ frames) (m ∷ messages) u = (u.0, cut_announced count (outs ∷ back) frames messages u.1)

cut_givens : (s : Settings) (slot count : ℕ) (back : List Happening) (offers : List (List Sending)) (outs : List SlotOut)
    (givens : List Given) → AreGiven s slot back offers outs givens
    → AreGiven s slot back (take count offers) (take count outs) (take count givens)
cut_givens s slot zero back offers outs givens u = tt
cut_givens s slot (suc count) back [] [] [] u = tt
cut_givens s slot (suc count) back [] [] (g ∷ givens) u = absurd u
cut_givens s slot (suc count) back [] (out ∷ outs) givens u = absurd u
cut_givens s slot (suc count) back (o ∷ offers) [] givens u = absurd u
cut_givens s slot (suc count) back (o ∷ offers) (out ∷ outs) [] u = absurd u
cut_givens s slot (suc count) back (o ∷ offers) (out ∷ outs) (g ∷ givens) u =
    (u.0, u.1, u.2, cut_givens s slot count (u.0 ∷ back) offers outs givens u.3)

-- so what goes out in the first so many frames goes out by itself
cut_downlink : (s : Settings) (count : ℕ) (first second : List SlotOut) (gates : List (List (Option Burst)))
    (sending : List (List (Option DownlinkBurst))) → IsDownlinkOf s first second gates sending
    → IsDownlinkOf s (take count first) (take count second) (take count gates) (take count sending)
cut_downlink s count first second gates sending u =
    let outs : List (List SlotOut) = frames_in first second in
    let frames = cut_frames count first second in
    let slots = ap (λ l. channel_frames s.channel_hang [] (claims_in l (take count gates))) frames
    ∙ ap (channel_frames s.channel_hang []) (cut_claims count outs gates)
    ∙ cut_channel count s.channel_hang [] (claims_in outs gates) in
    record {
      bursts = take count u.bursts;
      channel = subst (λ (l : List (List ChannelOut)). AllZip (AreSent s.colour) l (take count u.bursts)) (sym slots)
          (cut_pairs (AreSent s.colour) count (channel_frames s.channel_hang [] (claims_in outs gates)) u.bursts u.channel);
      messages = take count u.messages;
      announced = subst (λ l. AreAnnounced [] l (take count u.messages)) (sym frames)
          (cut_announced count [] outs u.messages u.announced);
      marks = ap (take count) u.marks ∙ sym (cut_marked count u.messages outs u.bursts)
          ∙ ap (λ l. marked_frames (take count u.messages) l (take count u.bursts)) (sym frames);
    }

-- the records of the first so many frames are a front of those of all
receipts_front : (frame count : ℕ) (first second : List Given)
    → IsFrontOf (receipts_of frame (take count first) (take count second)) (receipts_of frame first second)
receipts_front frame zero first second = (receipts_of frame first second, refl)
receipts_front frame (suc count) [] second = ([], refl)
receipts_front frame (suc count) (a ∷ first) [] = ([], refl)
receipts_front frame (suc count) (a ∷ first) (b ∷ second) =
    let now : List Receipt = map (receipt_in frame) (a.received ++ b.received) in
    let more = receipts_front (frame + 1) count first second in
    (more.0, ap (λ l. now ++ l) more.1 ∙ sym (append_assoc now _ more.0))

-- ---- how many frames there are
frames_offered : (frame count : ℕ) (sendings : List Sending) → length (by_frame frame count sendings) ≡ count
frames_offered frame zero sendings = refl
frames_offered frame (suc count) sendings = ap suc (frames_offered (frame + 1) count sendings)

-- a slot of the gateway has an output of its line for each frame
outs_length : (s : Settings) (slot : ℕ) (back : List Happening) (offers : List (List Sending)) (outs : List SlotOut)
    (givens : List Given) → AreGiven s slot back offers outs givens → length outs ≡ length offers
outs_length s slot back [] [] givens u = refl
outs_length s slot back [] (out ∷ outs) givens u = absurd u
outs_length s slot back (o ∷ offers) [] givens u = absurd u
outs_length s slot back (o ∷ offers) (out ∷ outs) [] u = absurd u
outs_length s slot back (o ∷ offers) (out ∷ outs) (g ∷ givens) u = ap suc (outs_length s slot (u.0 ∷ back) offers outs givens u.3)

-- where the front of a line has an output for each of its frames, and the line for each of all, there are no more frames in the
-- front
front_length : (s : Settings) (count total : ℕ) (sendings : List Sending) (line : List LineOut) (outs whole : List SlotOut)
    (givens all : List Given) → AllZip (IsSlotOut s.colour) (take count line) outs → AllZip (IsSlotOut s.colour) line whole
    → AreGiven s 1 [] (by_frame 0 count sendings) outs givens → AreGiven s 1 [] (by_frame 0 total sendings) whole all
    → count ≤ total
front_length s count total sendings line outs whole givens all u v p q = omega (
  arith,
  AllZip-long (IsSlotOut s.colour) (take count line) outs u,
  AllZip-long (IsSlotOut s.colour) line whole v,
  length-take count line,
  outs_length s 1 [] (by_frame 0 count sendings) outs givens p,
  outs_length s 1 [] (by_frame 0 total sendings) whole all q,
  frames_offered 0 count sendings,
  frames_offered 0 total sendings,
)

-- ---- the octets of what is sent
-- where slots are sent, the first so many of them are sent by themselves
cut_sent : (place : ℕ) (slots more : List (Option DownlinkBurst)) (sent : List (Option (List ℕ × List ℕ)))
    → AreSentAs place (slots ++ more) sent → AreSentAs place slots (take (length slots) sent)
cut_sent place [] more sent u = tt
cut_sent place (slot ∷ slots) more [] u = absurd u
cut_sent place (slot ∷ slots) more (now ∷ sent) u = (u.0, cut_sent (place + 1) slots more sent u.1)

-- what the first so many slots send is a front of what all of them send
pub sent_front : (part whole : List (Option DownlinkBurst)) (sent all : List (Option (List ℕ × List ℕ)))
    → IsFrontOf part whole → AreSentAs 0 part sent → AreSentAs 0 whole all → IsFrontOf sent all
sent_front part whole sent all front u v =
    front_from_take (length part) sent all (one_encoding 0 part sent (take (length part) all) u
    (cut_sent 0 part front.0 all (subst (λ l. AreSentAs 0 l all) front.1 v)))

-- ---- what is sent and received
-- a front of a line gives the first of what the line gives
line_front : (s : Settings) (count : ℕ) (line : List LineOut) (outs whole : List SlotOut)
    → AllZip (IsSlotOut s.colour) (take count line) outs → AllZip (IsSlotOut s.colour) line whole → outs ≡ take count whole
line_front s count line outs whole u v =
    zip_alike (IsSlotOut s.colour) (λ item x y. one_slot_out s.colour item x y) (take count line) outs (take count whole) u
    (cut_pairs (IsSlotOut s.colour) count line whole v)

-- and a slot of the gateway gives for the first so many frames the first of what it gives for all
givens_front : (s : Settings) (slot count : ℕ) (offers few : List (List Sending)) (outs whole : List SlotOut)
    (givens all : List Given) → take count offers ≡ few → outs ≡ take count whole → AreGiven s slot [] few outs givens
    → AreGiven s slot [] offers whole all → givens ≡ take count all
givens_front s slot count offers few outs whole givens all same_offers same_outs u v =
    givens_alike s slot [] few outs givens (take count all) u
    (subst (λ x. AreGiven s slot [] few x (take count all)) (sym same_outs)
    (subst (λ x. AreGiven s slot [] x (take count whole) (take count all)) same_offers
    (cut_givens s slot count [] offers whole all v)))

-- what the first so many frames send is a front of what all of them send, and so are the records of what is received
pub front_of_the_downlink : (s : Settings) (first second : List Cell) (frames : List UplinkSlots)
    (sendings : List Sending) (count total : ℕ) (part sending : List (List (Option DownlinkBurst)))
    (part_receipts receipts : List Receipt) (part_counts counts : Counts)
    → IsFrontOfTheDownlink s first second frames count (by_frame 0 count sendings) part part_receipts part_counts
    → IsDownlinkOfWhatIsMeant s first second frames (by_frame 0 total sendings) sending receipts counts
    → IsFrontOf part sending × IsFrontOf part_receipts receipts
front_of_the_downlink s first second frames sendings count total part sending part_receipts receipts part_counts counts u v =
    let line_1 : List LineOut = line_of_meaning s first (slots_in 0 frames) in
    let line_2 : List LineOut = line_of_meaning s second (slots_in 1 frames) in
    let offers : List (List Sending) = by_frame 0 total sendings in
    let few : count ≤ total = front_length s count total sendings line_1 u.first_outs v.first_outs u.gateway.first_given
    v.gateway.first_given u.first_line v.first_line u.gateway.first_slot v.gateway.first_slot in
    let offered : take count offers ≡ by_frame 0 count sendings = cut_offers 0 count total sendings few in
    let in_first : u.first_outs ≡ take count v.first_outs = line_front s count line_1 u.first_outs v.first_outs
    u.first_line v.first_line in
    let in_second : u.second_outs ≡ take count v.second_outs = line_front s count line_2 u.second_outs v.second_outs
    u.second_line v.second_line in
    let first_given = givens_front s 1 count offers (by_frame 0 count sendings) u.first_outs v.first_outs
    u.gateway.first_given v.gateway.first_given offered in_first u.gateway.first_slot v.gateway.first_slot in
    let second_given = givens_front s 2 count offers (by_frame 0 count sendings) u.second_outs v.second_outs
    u.gateway.second_given v.gateway.second_given offered in_second u.gateway.second_slot v.gateway.second_slot in
    let gates : u.gates ≡ take count v.gates = u.gateway.gates_are ∙ ap (λ l. gates_of l u.gateway.second_given) first_given
    ∙ ap (gates_of (take count v.gateway.first_given)) second_given
    ∙ cut_gates count v.gateway.first_given v.gateway.second_given ∙ ap (take count) (sym v.gateway.gates_are) in
    let receipts_are : part_receipts ≡ receipts_of 0 (take count v.gateway.first_given) (take count v.gateway.second_given) =
    u.gateway.receipts_are ∙ ap (λ l. receipts_of 0 l u.gateway.second_given) first_given
    ∙ ap (receipts_of 0 (take count v.gateway.first_given)) second_given in
    let cut = cut_downlink s count v.first_outs v.second_outs v.gates sending v.downlink in
    let goes_out : part ≡ take count sending = one_downlink s u.first_outs u.second_outs u.gates part (take count sending)
    u.downlink
    (subst (λ x. IsDownlinkOf s x u.second_outs u.gates (take count sending)) (sym in_first)
    (subst (λ x. IsDownlinkOf s (take count v.first_outs) x u.gates (take count sending)) (sym in_second)
    (subst (λ x. IsDownlinkOf s (take count v.first_outs) (take count v.second_outs) x (take count sending)) (sym gates) cut))) in
    let heard = receipts_front 0 count v.gateway.first_given v.gateway.second_given in (
      front_from_take count part sending goes_out,
      (heard.0, v.gateway.receipts_are ∙ heard.1 ∙ ap (λ l. l ++ heard.0) (sym receipts_are)),
    )
