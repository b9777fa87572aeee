-- What the rules make of frames, slot by slot.
use Rattle.std.proofs.Common.{◌≡◌, ℕ, List, [], ◌∷◌, ◌++◌, length, map, replicate, take, Option, None, refl, sym, ap, ◌∙◌}
use Rattle.std.proofs.Common.{subst, arith}
use Rattle.std.proofs.lemmas.List.{map-append, length-map}
use Rattle.dmr_burst.specs.declared.burst.Burst.{Burst}
use Rattle.dmr_slot.specs.ChannelMeaning.{ChannelOut, channel_frames}
use Rattle.dmr_slot.specs.Bursts.{IsSlotOut}
use Rattle.dmr_slot.specs.Bursts.{AreSent}
use Rattle.dmr_slot.specs.LineRules.{LineMemory as Line, silent_line, ArePushed}
use Rattle.dmr_slot.specs.Recordings.{handed_slots}
use Rattle.dmr_slot.specs.declared.line.SlotOut.{SlotOut}
use Rattle.dmr_slot.proofs.Channels.{looks_back}
use Rattle.dmr_slot.proofs.Recorded.{line_of_what_is_meant}
use Rattle.dmr_slot.proofs.Fronts.{front_of_any_line, front_of_what_is_meant}
use Rattle.dmr_slot.proofs.Unique.{one_sent}
use Rattle.dmr_voice.proofs.Law.{repeats_what_is_meant}
use Rattle.dmr_voice.specs.DamagedRecordings.{IsDamagedRecordingOf}
use Rattle.dmr_voice.specs.CallMeaning.{Transmission, Cell, sent_list}
use Rattle.dmr_voice.specs.WellFormed.{IsWellFormed}
use Rattle.dmr_station.specs.declared.announcing.Message.{Message}
use Rattle.dmr_station.specs.Sent.{DownlinkBurst}
use Rattle.dmr_station.specs.DownlinkRules.{slots_in, frames_in, marked_frames, IsDownlinkOf, IsPushedLine, Makes}
use Rattle.dmr_station.specs.DownlinkRules.{silent_frame}
use Rattle.dmr_station.specs.DownlinkRules.{handed_frames}
use Rattle.std.specs.List.{AllByRecursion}
use Rattle.dmr_gateway.specs.Runs.{Happening}
use Rattle.dmr_gateway.specs.BothSlots.{Stands}
use Rattle.dmr_gateway.proofs.BothSlots.{starts as starts_there}
use Rattle.dmr_record.specs.Outgoing.{Sending}
use Rattle.dmr_record.specs.declared.outgoing.Outgoing.{Outgoing}
use Rattle.dmr_station.specs.GatewayMeaning.{AreForSlots, Given, AreGiven}
use Rattle.dmr_record.specs.Outgoing.{AreReadFrom}
use Rattle.dmr_record.specs.Uplink.{UplinkSlots}
use Rattle.dmr_station.proofs.Frames.{slot_in, gates_of, claims_in}
use Rattle.dmr_station.specs.StationRules.{Settings, StationMemory, start}
use Rattle.dmr_station.proofs.FrameAfterFrame.{FrameGiven, ArePassed, all_counted}
use Rattle.dmr_station.specs.Station.{receipts_from}
use Rattle.dmr_station.proofs.Counting.{receipts_of_both, counted_of_both}
use Rattle.dmr_station.proofs.Exchanging.{exchanged}
use Rattle.dmr_station.specs.DownlinkMeaning.{line_of_meaning, SendsFrontOfWhatIsMeant, SendsWhatIsMeant}
use Rattle.std.specs.List.{AllZip}
use Rattle.dmr_station.proofs.LookingBack.{looks_back as messages_look_back, one_announced}

-- What the line of a slot gives is the line of what was sent in it, or the first so many frames of that.
abbrev LineOf : Settings → List Cell → List (Option (List ℕ)) → List SlotOut → Type 0
LineOf s cells slots outs = AllZip (IsSlotOut s.colour) (line_of_meaning s cells slots) outs

abbrev FrontOf : Settings → List Cell → List (Option (List ℕ)) → ℕ → List SlotOut → Type 0
FrontOf s cells slots count outs = AllZip (IsSlotOut s.colour) (take count (line_of_meaning s cells slots)) outs

-- ---- from frames to slots
-- each frame gives what both slots give
pub given_length : (s : Settings) (slot : ℕ) (back : List Happening) (offers : List (List Sending)) (outs : List SlotOut)
    (givens : List Given) → AreGiven s slot back offers outs givens → length givens ≡ length offers
given_length s slot back [] [] [] u = refl
given_length s slot back [] (out ∷ outs) givens u = absurd u
given_length s slot back [] [] (g ∷ givens) u = absurd u
given_length s slot back (o ∷ offers) [] givens u = absurd u
given_length s slot back (o ∷ offers) (out ∷ outs) [] u = absurd u
given_length s slot back (o ∷ offers) (out ∷ outs) (g ∷ givens) u =
    let more = given_length s slot (u.0 ∷ back) offers outs givens u.3 in omega (arith, more)

-- what is pushed into a line is what a look back over it finds
pushed_line : (s : Settings) (slots : List (Option (List ℕ))) (outs : List SlotOut) (after : Line)
    → ArePushed (silent_line s.colour s.call_hang) slots outs after → IsPushedLine s slots outs
pushed_line s slots outs after pushed =
    record { after = after; pushed = pushed; looks_back = front_of_any_line s.colour s.call_hang slots outs after pushed }

-- what frames come to from the start on is what the rules make of them
pub makes : (s : Settings) (oss : List (List Outgoing)) (offers : List (List Sending)) (frames : List UplinkSlots)
    (sending : List (List (Option DownlinkBurst))) (givens : List FrameGiven) (after : StationMemory)
    → ArePassed (start s) oss frames sending givens after → AllZip AreReadFrom oss offers → AllByRecursion AreForSlots offers
    → Makes s offers frames sending (receipts_from 0 (map (λ (g : FrameGiven). g.received) givens)) (all_counted givens)
makes s oss offers frames sending givens after u pairs slots =
    let silent : Stands s.colour s.llid s.queue [] [] (start s).gate = starts_there s.colour s.llid s.queue in
    let both = exchanged s [] [] (start s) oss offers frames sending givens after u silent pairs slots in
    let first_long = given_length s 1 [] offers both.first both.first_given both.first_slot in
    let second_long = given_length s 2 [] offers both.second both.second_given both.second_slot in
    let claims = claims_in (frames_in both.first both.second) (gates_of both.first_given both.second_given) in
    record {
      first = both.first;
      second = both.second;
      first_line = pushed_line s (slots_in 0 frames) both.first both.first_after both.first_pushed;
      second_line = pushed_line s (slots_in 1 frames) both.second both.second_after both.second_pushed;
      gates = gates_of both.first_given both.second_given;
      gateway = record {
        first_given = both.first_given;
        second_given = both.second_given;
        first_slot = both.first_slot;
        second_slot = both.second_slot;
        gates_are = refl;
        receipts_are = ap (λ (l : List FrameGiven). receipts_from 0 (map (λ (g : FrameGiven). g.received) l)) both.both
            ∙ receipts_of_both 0 both.first_given both.second_given;
        counts_are = ap all_counted both.both
            ∙ counted_of_both both.first_given both.second_given (first_long ∙ sym second_long);
      };
      downlink = record {
        bursts = both.bursts;
        channel = subst (λ (l : List (List ChannelOut)). AllZip (AreSent s.colour) l both.bursts)
            (looks_back s.colour s.channel_hang claims) both.channel;
        messages = both.messages;
        announced = messages_look_back None [] (frames_in both.first both.second) both.messages refl both.announces;
        marks = both.marks;
      };
    }

-- ---- from slots to what was sent
handed_in_first : (frames : List UplinkSlots) → slots_in 0 (handed_frames frames) ≡ handed_slots (slots_in 0 frames)
handed_in_first frames = ap (λ (l : List (Option (List ℕ))). None ∷ l) (map-append (slot_in 0) frames (replicate 5 silent_frame))

handed_in_second : (frames : List UplinkSlots) → slots_in 1 (handed_frames frames) ≡ handed_slots (slots_in 1 frames)
handed_in_second frames = ap (λ (l : List (Option (List ℕ))). None ∷ l) (map-append (slot_in 1) frames (replicate 5 silent_frame))

-- in one slot, of which this was handed over
module _ (s : Settings) (lead : ℕ) (ts : List (Transmission
    × ℕ)) (number : ℕ) (frames : List UplinkSlots) (outs : List SlotOut)
    (well : IsWellFormed s.colour ts) (recorded : IsDamagedRecordingOf s.colour (sent_list s.colour lead ts)
    (slots_in number frames))
    (same : slots_in number (handed_frames frames) ≡ handed_slots (slots_in number frames)) where
  whole_of_meaning : IsPushedLine s (slots_in number (handed_frames frames)) outs
      → LineOf s (sent_list s.colour lead ts) (slots_in number frames) outs
  whole_of_meaning line =
      line_of_what_is_meant repeats_what_is_meant s.colour s.call_hang lead ts (slots_in number frames) outs line.after well
      recorded
      (subst (λ (l : List (Option (List ℕ))). ArePushed (silent_line s.colour s.call_hang) l outs line.after) same line.pushed)

  front_of_meaning : (xs ys : List UplinkSlots) → handed_frames frames ≡ xs ++ ys
      → IsPushedLine s (slots_in number xs) outs
      → FrontOf s (sent_list s.colour lead ts) (slots_in number frames) (length xs) outs
  front_of_meaning xs ys split line =
      let slots_split : handed_slots (slots_in number frames) ≡ slots_in number xs ++ slots_in number ys =
      sym same ∙ ap (slots_in number) split ∙ map-append (slot_in number) xs ys in
      subst (λ (count : ℕ). FrontOf s (sent_list s.colour lead ts) (slots_in number frames) count outs)
      (length-map xs (slot_in number))
      (front_of_what_is_meant repeats_what_is_meant s.colour s.call_hang lead ts (slots_in number frames) (slots_in number xs)
      (slots_in number ys) outs line.after
      well recorded slots_split line.pushed)

-- in both slots
module _ (s : Settings) (lead : ℕ) (ts : List (Transmission
    × ℕ)) (frames : List UplinkSlots) (outs : List SlotOut) (well : IsWellFormed s.colour ts) where
  first_of_meaning : IsDamagedRecordingOf s.colour (sent_list s.colour lead ts) (slots_in 0 frames)
      → IsPushedLine s (slots_in 0 (handed_frames frames)) outs
      → LineOf s (sent_list s.colour lead ts) (slots_in 0 frames) outs
  first_of_meaning recorded pushed = whole_of_meaning s lead ts 0 frames outs well recorded (handed_in_first frames) pushed

  second_of_meaning : IsDamagedRecordingOf s.colour (sent_list s.colour lead ts) (slots_in 1 frames)
      → IsPushedLine s (slots_in 1 (handed_frames frames)) outs
      → LineOf s (sent_list s.colour lead ts) (slots_in 1 frames) outs
  second_of_meaning recorded pushed = whole_of_meaning s lead ts 1 frames outs well recorded (handed_in_second frames) pushed

  first_front : (xs ys : List UplinkSlots)
      → IsDamagedRecordingOf s.colour (sent_list s.colour lead ts) (slots_in 0 frames) → handed_frames frames ≡ xs ++ ys
      → IsPushedLine s (slots_in 0 xs) outs → FrontOf s (sent_list s.colour lead ts) (slots_in 0 frames)
      (length xs) outs
  first_front xs ys recorded split pushed = front_of_meaning s lead ts 0 frames outs well recorded
      (handed_in_first frames) xs ys split pushed

  second_front : (xs ys : List UplinkSlots)
      → IsDamagedRecordingOf s.colour (sent_list s.colour lead ts) (slots_in 1 frames) → handed_frames frames ≡ xs ++ ys
      → IsPushedLine s (slots_in 1 xs) outs → FrontOf s (sent_list s.colour lead ts) (slots_in 1 frames)
      (length xs) outs
  second_front xs ys recorded split pushed = front_of_meaning s lead ts 1 frames outs well recorded
      (handed_in_second frames) xs ys split pushed

-- ---- what was sent in both slots
pub sends_what_is_meant : SendsWhatIsMeant
sends_what_is_meant s lead_1 lead_2 first second frames well_1 well_2 recording offers sending receipts counts made = record {
  first_outs = made.first;
  second_outs = made.second;
  first_line = first_of_meaning s lead_1 first frames made.first well_1 recording.first_slot made.first_line;
  second_line = second_of_meaning s lead_2 second frames made.second well_2 recording.second_slot made.second_line;
  gates = made.gates;
  gateway = made.gateway;
  downlink = made.downlink;
}

-- what the rules make of a front of a recording is a front of what its transmissions mean
pub sends_front_of_what_is_meant : SendsFrontOfWhatIsMeant
sends_front_of_what_is_meant s lead_1 lead_2 first second frames well_1 well_2 recording front rest offers sending receipts
    counts split made = record {
      first_outs = made.first;
      second_outs = made.second;
      first_line = first_front s lead_1 first frames made.first well_1 front rest recording.first_slot split made.first_line;
      second_line = second_front s lead_2 second frames made.second well_2 front rest recording.second_slot split made.second_line;
      gates = made.gates;
      gateway = made.gateway;
      downlink = made.downlink;
    }

-- ---- there is one downlink
one_sent_frame : (colour : ℕ) (slots : List ChannelOut) (a b : List (Option Burst)) → AreSent colour slots a
    → AreSent colour slots b → a ≡ b
one_sent_frame colour [] [] [] u v = refl
one_sent_frame colour [] (a ∷ as') b u v = absurd u
one_sent_frame colour [] [] (b ∷ bs) u v = absurd v
one_sent_frame colour (slot ∷ slots) [] b u v = absurd u
one_sent_frame colour (slot ∷ slots) (a ∷ as') [] u v = absurd v
one_sent_frame colour (slot ∷ slots) (a ∷ as') (b ∷ bs) u v =
    let head = one_sent colour slot a b u.0 v.0 in
    let tail = one_sent_frame colour slots as' bs u.1 v.1 in
    cc

one_sent_list : (colour : ℕ) (frames : List (List ChannelOut)) (a b : List (List (Option Burst)))
    → AllZip (AreSent colour) frames a → AllZip (AreSent colour) frames b → a ≡ b
one_sent_list colour [] [] [] u v = refl
one_sent_list colour [] (a ∷ as') b u v = absurd u
one_sent_list colour [] [] (b ∷ bs) u v = absurd v
one_sent_list colour (f ∷ fs) [] b u v = absurd u
one_sent_list colour (f ∷ fs) (a ∷ as') [] u v = absurd v
one_sent_list colour (f ∷ fs) (a ∷ as') (b ∷ bs) u v =
    let head = one_sent_frame colour f a b u.0 v.0 in
    let tail = one_sent_list colour fs as' bs u.1 v.1 in
    cc

-- one thing alone goes out for what both lines and the gateway give
pub one_downlink : (s : Settings) (first second : List SlotOut) (gates : List (List (Option Burst)))
    (a b : List (List (Option DownlinkBurst))) → IsDownlinkOf s first second gates a → IsDownlinkOf s first second gates b → a ≡ b
one_downlink s first second gates a b u v =
    let same = one_sent_list s.colour (channel_frames s.channel_hang [] (claims_in
    (frames_in first second) gates)) u.bursts v.bursts u.channel v.channel in
    let announced = one_announced [] (frames_in first second) u.messages v.messages u.announced v.announced in
    u.marks ∙ ap (λ (messages : List Message). marked_frames messages (frames_in first second) u.bursts) announced
    ∙ ap (marked_frames v.messages (frames_in first second)) same ∙ sym v.marks
