-- The calls of both slots of a recording are told.
use Rattle.std.proofs.Common.{◌≡◌, ℕ, ◌+◌, ◌<◌, ◌≤◌, ◌^◌, ◌⊎◌, inl, inr, List, [], ◌∷◌, ◌++◌, length, replicate, take, drop}
use Rattle.std.proofs.Common.{Option, None, option_to_list, sym, ap, ◌∙◌, subst, arith, append_assoc}
use Rattle.std.proofs.Math.Seq.{take-append_seam}
use Rattle.std.proofs.lemmas.List.{drop-append-le, length-append, length-drop, length-map}
use Rattle.dmr_burst.specs.declared.burst.Burst.{Burst}
use Rattle.dmr_hearing.specs.Slots.{Silent}
use Rattle.dmr_log.specs.Pieces.{AreFollowed, RepeatedFrame}
use Rattle.dmr_log.specs.SlotTracks.{ended_with, told_at_end}
use Rattle.dmr_log.specs.declared.slot_log.SlotTold.{SlotTold}
use Rattle.dmr_log.specs.declared.transmission.Transmission.{Transmission as Entry}
use Rattle.dmr_record.specs.Head.{frame_limit}
use Rattle.dmr_voice.specs.CallMeaning.{Cell, Transmission, sent_list, unsaid}
use Rattle.dmr_voice.specs.DamagedRecordings.{IsDamagedRecordingOf}
use Rattle.dmr_voice.specs.WellFormed.{IsWellFormed}
use Rattle.dmr_log_laws.proofs.Calls.{told_from, in_two, more_calls, none_left, pause_shown, replicate_long, sent_from}
use Rattle.dmr_log_laws.proofs.Calls.{shown_in_two, stays_closed}
use Rattle.dmr_log_laws.proofs.Decided.{AreShown, slot_shown}
use Rattle.dmr_log_laws.proofs.Followed.{passed_long, slot_log, told_to_repeat}
use Rattle.dmr_log_laws.proofs.Growing.{IsNoCall, repeats_of}
use Rattle.dmr_log_laws.proofs.Whole.{IsSlotOfLog, slots_of_log}
use Rattle.dmr_log_laws.specs.CallEntries.{AreCallsTold, CallsAreTold, CallsOfSlotAreTold}
use Rattle.dmr_log_laws.specs.WholeLogs.{entries_told, recorded_in_slot_1, recorded_in_slot_2, repeated_in, told_of_slot_1}
use Rattle.dmr_log_laws.specs.WholeLogs.{told_of_slot_2}

-- what is told of the frames of a recording is what is told behind the first five, without the end
in_frames : (n : ℕ) (of_frames : List SlotTold) (end : SlotTold) → length of_frames ≡ n + 5
    → repeated_in n (of_frames ++ end ∷ []) ≡ told_to_repeat (drop 5 of_frames)
in_frames n of_frames end long =
    let rest : length (drop 5 of_frames) ≡ n = length-drop 5 of_frames ∙ omega (arith, long) in
    ap (λ (l : List SlotTold). told_to_repeat (take n l)) (drop-append-le 5 of_frames (end ∷ []) (omega (arith, long)))
    ∙ ap (λ (k : ℕ). told_to_repeat (take k (drop 5 of_frames ++ end ∷ []))) (sym rest)
    ∙ ap told_to_repeat (take-append_seam (drop 5 of_frames) (end ∷ []))

from_lead : (colour lead : ℕ) (ts : List (Transmission × ℕ)) (front rest : List RepeatedFrame) (going : Option Entry)
    (after : List Entry) (last : Option Entry) → IsWellFormed colour ts → AreShown colour (sent_from colour ts) (repeats_of rest)
    → IsNoCall going → length front + length rest < 2 ^ 32 → AreFollowed going (0 + length front) rest after last
    → (length front ≡ length (replicate lead (unsaid Silent))) ⊎ (rest ≡ [])
    → AreCallsTold colour lead ts (after ++ option_to_list last)
from_lead colour lead ts front rest going after last well behind closed below followed (inr none) =
    none_left colour lead ts _ well (subst (λ (l : List RepeatedFrame). AreShown colour (sent_from colour ts) (repeats_of l)) none
    behind)
from_lead colour lead ts front rest going after last well behind closed below followed (inl whole) =
    let at : 0 + length front ≡ lead = omega (arith, whole, replicate_long lead (unsaid Silent)) in
    subst (λ (k : ℕ). AreCallsTold colour k ts (after ++ option_to_list last)) at
    (told_from colour ts well (0 + length front) rest going after last behind closed (omega (arith, below)) followed)

-- behind the silences that come first
behind_lead : (colour lead : ℕ) (ts : List (Transmission × ℕ)) (frames : List RepeatedFrame) (ended : List Entry)
    (last : Option Entry) → IsWellFormed colour ts → AreShown colour (sent_list colour lead ts) (repeats_of frames)
    → length frames < 2 ^ 32 → AreFollowed None 0 frames ended last
    → AreCallsTold colour lead ts (ended ++ option_to_list last)
behind_lead colour lead ts frames ended last well shown below followed =
    let part = shown_in_two colour (replicate lead (unsaid Silent)) (sent_from colour ts) frames shown in
    let two = in_two None 0 part.front part.rest ended last
    (subst (λ (l : List RepeatedFrame). AreFollowed None 0 l ended last) part.split followed) in
    let long : length frames ≡ length part.front + length part.rest =
    ap length part.split ∙ length-append part.front part.rest in
    let closed = stays_closed None 0 part.front two.before two.going tt (pause_shown colour lead part.front part.shown) two.first in
    let all : two.before ++ (two.after ++ option_to_list last) ≡ ended ++ option_to_list last =
    sym (append_assoc two.before two.after (option_to_list last))
    ∙ ap (λ (l : List Entry). l ++ option_to_list last) (sym two.all) in
    subst (AreCallsTold colour lead ts) all
    (more_calls colour lead ts two.before (two.after ++ option_to_list last)
    (from_lead colour lead ts part.front part.rest two.going two.after last well part.behind closed (omega (arith, long, below))
    two.second part.whole))

few_frames : (n m : ℕ) → n ≤ frame_limit → m ≡ n → m < 2 ^ 32
few_frames n m few e = omega (arith, few, e)

-- the frames of a slot, which show what was sent in it, and what is told of them
pub record AreSlotFrames (colour : ℕ) (cs : List Cell) (told : List SlotTold) : Type 0 where
  pub frames : List RepeatedFrame
  pub ended : List Entry
  pub last : Option Entry
  pub shown : AreShown colour cs (repeats_of frames)
  pub followed : AreFollowed None 0 frames ended last
  pub below : length frames < 2 ^ 32
  pub all : ended ++ option_to_list last ≡ entries_told told

-- each slot of a log has them
pub slot_frames : (colour : ℕ) (slots : List (Option (List ℕ))) (told : List SlotTold) (bursts : List (Option Burst)) (lead : ℕ)
    (ts : List (Transmission × ℕ)) → length slots ≤ frame_limit → IsSlotOfLog colour slots told bursts → IsWellFormed colour ts
    → IsDamagedRecordingOf colour (sent_list colour lead ts) slots → AreSlotFrames colour (sent_list colour lead ts) told
slot_frames colour slots told bursts lead ts few s well recorded =
    let end = told_at_end (ended_with s.after.current) in
    let long : length s.of_frames ≡ length slots + 5 =
    passed_long _ 0 (slots ++ replicate 5 None) s.of_frames bursts s.after s.passed
    ∙ length-append slots (replicate 5 None) ∙ omega arith in
    let so = slot_log colour slots s.of_frames bursts s.after s.passed in
    let shown = slot_shown colour lead ts slots s.of_frames bursts s.after well recorded long s.passed in
    let same : told_to_repeat (drop 5 s.of_frames) ≡ repeats_of so.frames =
    sym (so.repeats ∙ in_frames (length slots) s.of_frames end long) in
    record {
      frames = so.frames;
      ended = so.ended;
      last = so.last;
      shown = subst (AreShown colour (sent_list colour lead ts)) same shown;
      followed = so.followed;
      below = few_frames (length slots) (length so.frames) few so.long;
      all = sym (ap entries_told s.told_is ∙ so.all);
    }

-- the calls of a slot are told
calls_of_slot : (colour : ℕ) (slots : List (Option (List ℕ))) (told : List SlotTold) (bursts : List (Option Burst))
    → length slots ≤ frame_limit → IsSlotOfLog colour slots told bursts → CallsOfSlotAreTold colour slots told
calls_of_slot colour slots told bursts few s lead ts well recorded =
    let f = slot_frames colour slots told bursts lead ts few s well recorded in
    subst (AreCallsTold colour lead ts) f.all
    (behind_lead colour lead ts f.frames f.ended f.last well f.shown f.below f.followed)

-- the calls of both slots are told
pub calls_are_told : CallsAreTold
calls_are_told colour gateway frames told log few whole =
    let both = slots_of_log colour gateway frames told log whole in
    let one : length (recorded_in_slot_1 frames) ≡ length frames = length-map frames _ in
    let two : length (recorded_in_slot_2 frames) ≡ length frames = length-map frames _ in (
      calls_of_slot colour (recorded_in_slot_1 frames) (told_of_slot_1 told) both.bursts_1 (omega (arith, few, one)) both.slot_1,
      calls_of_slot colour (recorded_in_slot_2 frames) (told_of_slot_2 told) both.bursts_2 (omega (arith, few, two)) both.slot_2,
    )
