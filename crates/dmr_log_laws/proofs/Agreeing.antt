-- The entries of a log share out the frames of its slots, and tell as many bursts as a run repeats.
use Rattle.std.proofs.Common.{◌≡◌, ℕ, ◌+◌, ◌<◌, ◌≤◌, ◌^◌, List, [], ◌∷◌, ◌++◌, length, count_by, replicate, is_some}
use Rattle.std.proofs.Common.{Option, None, option_to_list, refl, sym, ap, ◌∙◌, subst, arith, append_assoc}
use Rattle.std.proofs.lemmas.List.{length-map}
use Rattle.dmr_burst.specs.declared.burst.Burst.{Burst}
use Rattle.dmr_listing.specs.ListingRules.{GivenInTurn}
use Rattle.dmr_log.specs.LogRules.{new_log}
use Rattle.dmr_log.specs.Pieces.{AllBurstsAreTold, AreSharedOut, EachBurstIsInOne}
use Rattle.dmr_log.specs.RecordingLogs.{Logs, RecordedFrames, silent_frames}
use Rattle.dmr_log.specs.declared.log.FrameTold.{FrameTold}
use Rattle.dmr_log.specs.declared.log.LogState.{LogState}
use Rattle.dmr_log.specs.declared.repeated.Repeated.{Repeated}
use Rattle.dmr_log.specs.declared.slot_log.SlotTold.{SlotTold}
use Rattle.dmr_log.specs.declared.transmission.Transmission.{Transmission}
use Rattle.dmr_record.specs.Head.{frame_limit}
use Rattle.dmr_slot.specs.LineRules.{LineMemory, ArePushed, silent_line}
use Rattle.dmr_slot.specs.declared.line.SlotOut.{SlotOut}
use Rattle.dmr_station.specs.DownlinkRules.{slots_in, handed_frames}
use Rattle.dmr_log_laws.proofs.Followed.{none_counted, pushed_by, slot_log, IsSlotLog}
use Rattle.dmr_log_laws.proofs.Pushes.{as_in_a_run, bursts_of_outs}
use Rattle.dmr_log_laws.proofs.SameFile.{handed_1, handed_2}
use Rattle.dmr_log_laws.proofs.Sending.{run_repeats}
use Rattle.dmr_log_laws.proofs.Whole.{IsSlotOfLog, slots_of_log}
use Rattle.dmr_log_laws.specs.WholeLogs.{AgreesWithRuns, EachBurstIsInOneEntry, TellsWholeLogs, burst_total, entries_told}
use Rattle.dmr_log_laws.specs.WholeLogs.{recorded_in_slot_1, recorded_in_slot_2, repeated_in, told_of_slot_1, told_of_slot_2}

-- 1. What is told of whole recordings.

logs_append : (log between end : LogState) (frames more : RecordedFrames) (told others : List FrameTold)
    → Logs log frames told between → Logs between more others end → Logs log (frames ++ more) (told ++ others) end
logs_append log between end [] more [] others (none, same) b = subst (λ (s : LogState). Logs s more others end) same b
logs_append log between end [] more (t ∷ told) others (none, same) b = cc
logs_append log between end (f ∷ frames) more [] others a b = absurd a
logs_append log between end (f ∷ frames) more (t ∷ told) others (next, first, is, rest) b =
    (next, first, is, logs_append next between end frames more told others rest b)

given_append : (L : Type 0) (Takes : L → FrameTold → L → Type 0) (old between new : L) (xs ys : List FrameTold)
    → GivenInTurn Takes old xs between → GivenInTurn Takes between ys new → GivenInTurn Takes old (xs ++ ys) new
given_append L Takes old between new [] ys same b = subst (λ (s : L). GivenInTurn Takes s ys new) same b
given_append L Takes old between new (x ∷ xs) ys (next, first, rest) b =
    (next, first, given_append L Takes next between new xs ys rest b)

-- whole recordings are told as one log
pub tells_whole_logs : (L : Type 0) (Takes : L → FrameTold → L → Type 0) → TellsWholeLogs L Takes
tells_whole_logs L Takes colour gateway frames read log left_old left_new old between new taken rest = (
  taken.told ++ (rest.told ++ log.told ∷ []),
  record {
    of_frames = taken.told ++ rest.told;
    decided = rest.decided;
    logged = logs_append (new_log colour gateway) read rest.decided frames (silent_frames 5) taken.told rest.told taken.logged
        rest.logged;
    ended = rest.ended;
    all = sym (append_assoc taken.told rest.told (log.told ∷ []));
  },
  given_append L Takes old between new taken.told (rest.told ++ log.told ∷ []) taken.given rest.given,
)

-- 2. One slot.

few_frames : (n m : ℕ) → n ≤ frame_limit → m ≡ n → m < 2 ^ 32
few_frames n m few e = omega (arith, few, e)

shared_out : EachBurstIsInOne → (colour : ℕ) (slots : List (Option (List ℕ))) (told : List SlotTold) (bursts : List (Option Burst))
    → length slots ≤ frame_limit → IsSlotLog colour slots told bursts
    → AreSharedOut 0 (repeated_in (length slots) told) (entries_told told)
shared_out each_burst_is_in_one colour slots told bursts few so =
    subst (λ (l : List Transmission). AreSharedOut 0 (repeated_in (length slots) told) l) (sym so.all)
    (subst (λ (l : List Repeated). AreSharedOut 0 l (so.ended ++ option_to_list so.last)) so.repeats
    (each_burst_is_in_one so.frames so.ended so.last (few_frames (length slots) (length so.frames) few so.long) so.followed))

bursts_told : AllBurstsAreTold → (colour : ℕ) (slots : List (Option (List ℕ))) (told : List SlotTold) (bursts : List (Option Burst))
    → length slots ≤ frame_limit → IsSlotLog colour slots told bursts → burst_total (entries_told told) ≡ count_by is_some bursts
bursts_told all_bursts_are_told colour slots told bursts few so =
    ap burst_total so.all
    ∙ all_bursts_are_told so.frames so.ended so.last (few_frames (length slots) (length so.frames) few so.long) so.followed
    ∙ so.counted

-- the slot, as what is told of it
pub slot_log_of : (colour : ℕ) (slots : List (Option (List ℕ))) (told : List SlotTold) (bursts : List (Option Burst))
    → IsSlotOfLog colour slots told bursts → IsSlotLog colour slots told bursts
slot_log_of colour slots told bursts s =
    subst (λ (l : List SlotTold). IsSlotLog colour slots l bursts) (sym s.told_is)
    (slot_log colour slots s.of_frames bursts s.after s.passed)

-- a run's line of the same slots repeats as many bursts
as_many : (colour hang : ℕ) (slots handed : List (Option (List ℕ))) (told : List SlotTold) (bursts : List (Option Burst))
    (outs : List SlotOut) (after : LineMemory) → IsSlotOfLog colour slots told bursts → handed ≡ None ∷ (slots ++ replicate 5 None)
    → ArePushed (silent_line colour hang) handed outs after
    → count_by is_some (bursts_of_outs outs) ≡ count_by is_some bursts
as_many colour hang slots handed told bursts outs after s is pushed =
    let by = pushed_by _ 0 (slots ++ replicate 5 None) s.of_frames bursts s.after s.passed in
    let same : bursts_of_outs outs ≡ None ∷ bursts_of_outs by.outs =
    as_in_a_run colour hang (slots ++ replicate 5 None) by.outs outs s.after.line after by.pushed
    (subst (λ (l : List (Option (List ℕ))). ArePushed (silent_line colour hang) l outs after) is pushed) in
    ap (count_by is_some) same ∙ none_counted (bursts_of_outs by.outs) ∙ ap (count_by is_some) (sym by.same)

-- 3. The laws.

recorded_long_1 : (frames : RecordedFrames) → length (recorded_in_slot_1 frames) ≡ length frames
recorded_long_1 frames = length-map frames _

recorded_long_2 : (frames : RecordedFrames) → length (recorded_in_slot_2 frames) ≡ length frames
recorded_long_2 frames = length-map frames _

-- the entries of each slot share out its frames
pub each_burst_is_in_one_entry : EachBurstIsInOne → EachBurstIsInOneEntry
each_burst_is_in_one_entry law colour gateway frames told log few whole =
    let both = slots_of_log colour gateway frames told log whole in
    let one = recorded_long_1 frames in
    let two = recorded_long_2 frames in (
      subst (λ (n : ℕ). AreSharedOut 0 (repeated_in n (told_of_slot_1 told)) (entries_told (told_of_slot_1 told))) one
          (shared_out law colour (recorded_in_slot_1 frames) (told_of_slot_1 told) both.bursts_1 (omega (arith, few, one))
          (slot_log_of colour _ _ _ both.slot_1)),
      subst (λ (n : ℕ). AreSharedOut 0 (repeated_in n (told_of_slot_2 told)) (entries_told (told_of_slot_2 told))) two
          (shared_out law colour (recorded_in_slot_2 frames) (told_of_slot_2 told) both.bursts_2 (omega (arith, few, two))
          (slot_log_of colour _ _ _ both.slot_2)),
    )

sums_agree : (a b c d e f r k : ℕ) → a ≡ c → b ≡ d → e ≡ c → f ≡ d → k ≡ r → r ≡ e + f → a + b ≡ k
sums_agree a b c d e f r k p q s t u v = omega (arith, p, q, s, t, u, v)

-- the entries of both slots tell as many bursts as a run over the same file counts, and so does the log
pub agrees_with_runs : AllBurstsAreTold → AgreesWithRuns
agrees_with_runs law gateway frames told log s uplink sendings repeated counts old new few whole same writes =
    let both = slots_of_log s.colour gateway frames told log whole in
    let makes = writes.rules.makes in
    let one = recorded_long_1 frames in
    let two = recorded_long_2 frames in
    let told_1 = bursts_told law s.colour (recorded_in_slot_1 frames) (told_of_slot_1 told) both.bursts_1 (omega (arith, few, one))
    (slot_log_of s.colour _ _ _ both.slot_1) in
    let told_2 = bursts_told law s.colour (recorded_in_slot_2 frames) (told_of_slot_2 told) both.bursts_2 (omega (arith, few, two))
    (slot_log_of s.colour _ _ _ both.slot_2) in
    let run_1 = as_many s.colour s.call_hang (recorded_in_slot_1 frames) (slots_in 0 (handed_frames uplink)) (told_of_slot_1 told)
    both.bursts_1 makes.first makes.first_line.after both.slot_1 (handed_1 frames uplink same) makes.first_line.pushed in
    let run_2 = as_many s.colour s.call_hang (recorded_in_slot_2 frames) (slots_in 1 (handed_frames uplink)) (told_of_slot_2 told)
    both.bursts_2 makes.second makes.second_line.after both.slot_2 (handed_2 frames uplink same) makes.second_line.pushed in
    let run = run_repeats s _ (handed_frames uplink) writes.rules.sending _ counts makes in
    let repeats = writes.rules.repeats in
    let counted = both.counts few in (
      sums_agree _ _ _ _ _ _ _ _ told_1 told_2 run_1 run_2 repeats run,
      counted
          ∙ sums_agree (count_by is_some both.bursts_1) (count_by is_some both.bursts_2) _ _ _ _ _ _ refl refl run_1 run_2 repeats
          run,
    )
