-- The log of a whole recording, slot by slot.
use Rattle.std.proofs.Common.{◌≡◌, ℕ, ◌+◌, ◌≤◌, List, [], ◌∷◌, ◌++◌, length, count_by, replicate, is_some}
use Rattle.std.proofs.Common.{Option, None, ap, ◌∙◌, subst, arith}
use Rattle.std.proofs.lemmas.List.{length-append, map-append}
use Rattle.dmr_burst.specs.declared.burst.Burst.{Burst}
use Rattle.dmr_gateway.specs.GatewayRules.{Gate}
use Rattle.dmr_log.specs.LogRules.{new_log, with_ends}
use Rattle.dmr_log.specs.RecordingLogs.{RecordedFrames, silent_frames}
use Rattle.dmr_log.specs.SlotTracks.{SlotTrack, silent_track, told_at_end, ended_with}
use Rattle.dmr_log.specs.declared.log.FrameTold.{FrameTold}
use Rattle.dmr_log.specs.declared.log.LogCounts.{LogCounts}
use Rattle.dmr_log.specs.declared.log.LogState.{LogState}
use Rattle.dmr_log.specs.declared.slot_log.SlotTold.{SlotTold}
use Rattle.dmr_record.specs.Head.{frame_limit}
use Rattle.dmr_log_laws.proofs.Slots.{ArePassed, both_passed, ends_repeat, records_repeat}
use Rattle.dmr_log_laws.specs.WholeLogs.{IsWholeLog, recorded_in_slot_1, recorded_in_slot_2, told_of_slot_1, told_of_slot_2}

-- one slot of a whole log
pub record IsSlotOfLog (colour : ℕ) (slots : List (Option (List ℕ))) (told : List SlotTold) (bursts : List (Option Burst))
    : Type 0 where
  pub of_frames : List SlotTold
  pub after : SlotTrack
  pub passed : ArePassed (silent_track colour) 0 (slots ++ replicate 5 None) of_frames bursts after
  pub told_is : told ≡ of_frames ++ told_at_end (ended_with after.current) ∷ []

-- both slots, and what is counted in them
pub record AreSlotsOfLog (colour : ℕ) (frames : RecordedFrames) (told : List FrameTold) (log : LogState) : Type 0 where
  pub bursts_1 : List (Option Burst)
  pub bursts_2 : List (Option Burst)
  pub slot_1 : IsSlotOfLog colour (recorded_in_slot_1 frames) (told_of_slot_1 told) bursts_1
  pub slot_2 : IsSlotOfLog colour (recorded_in_slot_2 frames) (told_of_slot_2 told) bursts_2
  pub counts : length frames ≤ frame_limit → log.counts.repeated ≡ count_by is_some bursts_1 + count_by is_some bursts_2

slot_of_log : (colour : ℕ) (slots longer : List (Option (List ℕ))) (told of_frames : List SlotTold) (end : SlotTold)
    (bursts : List (Option Burst)) (after : SlotTrack) → longer ≡ slots ++ replicate 5 None → told ≡ of_frames ++ end ∷ []
    → end ≡ told_at_end (ended_with after.current) → ArePassed (silent_track colour) 0 longer of_frames bursts after
    → IsSlotOfLog colour slots told bursts
slot_of_log colour slots longer told of_frames end bursts after more is at_end passed = record {
  of_frames = of_frames;
  after = after;
  passed = subst (λ (l : List (Option (List ℕ))). ArePassed (silent_track colour) 0 l of_frames bursts after) more passed;
  told_is = is ∙ ap (λ (t : SlotTold). of_frames ++ t ∷ []) at_end;
}

none_before : (n a b : ℕ) → n ≡ 0 + a + b → n ≡ a + b
none_before n a b e = omega (arith, e)

-- a whole log is one of both slots
pub slots_of_log : (colour : ℕ) (gateway : Option Gate) (frames : RecordedFrames) (told : List FrameTold) (log : LogState)
    → IsWholeLog colour gateway frames told log → AreSlotsOfLog colour frames told log
slots_of_log colour gateway frames told log w =
    let both = both_passed (new_log colour gateway) (frames ++ silent_frames 5) w.of_frames w.decided w.logged in
    record {
      bursts_1 = both.bursts_1;
      bursts_2 = both.bursts_2;
      slot_1 = slot_of_log colour (recorded_in_slot_1 frames) (recorded_in_slot_1 (frames ++ silent_frames 5)) (told_of_slot_1 told)
          (told_of_slot_1 w.of_frames) log.told.slot_1 both.bursts_1 w.decided.first (map-append _ frames (silent_frames 5))
          (ap told_of_slot_1 w.all ∙ map-append _ w.of_frames (log.told ∷ [])) w.ended.ends_1 both.passed_1;
      slot_2 = slot_of_log colour (recorded_in_slot_2 frames) (recorded_in_slot_2 (frames ++ silent_frames 5)) (told_of_slot_2 told)
          (told_of_slot_2 w.of_frames) log.told.slot_2 both.bursts_2 w.decided.second (map-append _ frames (silent_frames 5))
          (ap told_of_slot_2 w.all ∙ map-append _ w.of_frames (log.told ∷ [])) w.ended.ends_2 both.passed_2;
      counts = λ few.
          let long : length (frames ++ silent_frames 5) ≡ length frames + 5 =
          length-append frames (silent_frames 5) ∙ omega arith in
          ap (λ (c : LogCounts). c.repeated) w.ended.counts
          ∙ records_repeat log.told.received (with_ends log.told.slot_1 log.told.slot_2 w.decided.counts)
          ∙ ends_repeat log.told.slot_1 log.told.slot_2 w.decided.counts
          ∙ none_before w.decided.counts.repeated (count_by is_some both.bursts_1) (count_by is_some both.bursts_2)
          (both.counts (omega (arith, few, long)));
    }
