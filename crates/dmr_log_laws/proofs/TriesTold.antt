-- The data tries of both slots of a recording are told, where their headers count their blocks.
use Rattle.std.proofs.Common.{◌≡◌, ℕ, ◌+◌, ◌<◌, ◌≤◌, ◌^◌, ◌⊎◌, inl, inr, List, [], ◌++◌, length, replicate, Option, None}
use Rattle.std.proofs.Common.{option_to_list, refl, sym, ap, ◌∙◌, subst, arith, append_assoc}
use Rattle.std.proofs.lemmas.List.{length-append, length-map}
use Rattle.dmr_burst.specs.declared.burst.Burst.{Burst}
use Rattle.dmr_hearing.specs.Slots.{Silent}
use Rattle.dmr_log.specs.Pieces.{AreFollowed, RepeatedFrame}
use Rattle.dmr_log.specs.declared.slot_log.SlotTold.{SlotTold}
use Rattle.dmr_log.specs.declared.transmission.Transmission.{Transmission as Entry}
use Rattle.dmr_record.specs.Head.{frame_limit}
use Rattle.dmr_voice.specs.CallMeaning.{Transmission, sent_list, unsaid}
use Rattle.dmr_voice.specs.WellFormed.{IsWellFormed}
use Rattle.dmr_log_laws.proofs.Calls.{in_two, replicate_long, sent_from, shown_in_two}
use Rattle.dmr_log_laws.proofs.CallsTold.{slot_frames}
use Rattle.dmr_log_laws.proofs.Decided.{AreShown}
use Rattle.dmr_log_laws.proofs.Growing.{repeats_of}
use Rattle.dmr_log_laws.proofs.Tries.{IsAt, at_frames, more_tries, no_tries_left, tries_told}
use Rattle.dmr_log_laws.proofs.Whole.{IsSlotOfLog, slots_of_log}
use Rattle.dmr_log_laws.specs.TryEntries.{AreTriesTold, TriesAreTold, TriesOfSlotAreTold}
use Rattle.dmr_log_laws.specs.WholeLogs.{recorded_in_slot_1, recorded_in_slot_2, told_of_slot_1, told_of_slot_2}

from_lead : (colour lead : ℕ) (ts : List (Transmission × ℕ)) (front rest : List RepeatedFrame) (going : Option Entry)
    (after : List Entry) (last : Option Entry) → IsWellFormed colour ts → AreShown colour (sent_from colour ts) (repeats_of rest)
    → IsAt (0 + length front) going → length front + length rest < 2 ^ 32
    → AreFollowed going (0 + length front) rest after last
    → (length front ≡ length (replicate lead (unsaid Silent))) ⊎ (rest ≡ [])
    → AreTriesTold colour lead ts (after ++ option_to_list last)
from_lead colour lead ts front rest going after last well behind at below followed (inr none) =
    no_tries_left colour lead ts _ (subst (λ (l : List RepeatedFrame). AreShown colour (sent_from colour ts) (repeats_of l)) none
    behind)
from_lead colour lead ts front rest going after last well behind at below followed (inl whole) =
    let pause = replicate_long lead (unsaid Silent) in
    let place : 0 + length front ≡ lead = omega (arith, whole, pause) in
    subst (λ (k : ℕ). AreTriesTold colour k ts (after ++ option_to_list last)) place
    (tries_told colour ts well (0 + length front) rest going after last behind at (omega (arith, below)) followed)

-- behind the silences that come first
behind_lead : (colour lead : ℕ) (ts : List (Transmission × ℕ)) (frames : List RepeatedFrame) (ended : List Entry)
    (last : Option Entry) → IsWellFormed colour ts → AreShown colour (sent_list colour lead ts) (repeats_of frames)
    → length frames < 2 ^ 32 → AreFollowed None 0 frames ended last
    → AreTriesTold colour lead ts (ended ++ option_to_list last)
behind_lead colour lead ts frames ended last well shown below followed =
    let part = shown_in_two colour (replicate lead (unsaid Silent)) (sent_from colour ts) frames shown in
    let two = in_two None 0 part.front part.rest ended last
    (subst (λ (l : List RepeatedFrame). AreFollowed None 0 l ended last) part.split followed) in
    let long : length frames ≡ length part.front + length part.rest =
    ap length part.split ∙ length-append part.front part.rest in
    let at = at_frames None 0 (0 + length part.front) part.front two.before two.going refl (omega (arith, long, below)) tt
    two.first in
    let all : two.before ++ (two.after ++ option_to_list last) ≡ ended ++ option_to_list last =
    sym (append_assoc two.before two.after (option_to_list last))
    ∙ ap (λ (l : List Entry). l ++ option_to_list last) (sym two.all) in
    subst (AreTriesTold colour lead ts) all
    (more_tries colour lead ts two.before (two.after ++ option_to_list last)
    (from_lead colour lead ts part.front part.rest two.going two.after last well part.behind at (omega (arith, long, below))
    two.second part.whole))

-- the tries of a slot are told
tries_of_slot : (colour : ℕ) (slots : List (Option (List ℕ))) (told : List SlotTold) (bursts : List (Option Burst))
    → length slots ≤ frame_limit → IsSlotOfLog colour slots told bursts → TriesOfSlotAreTold colour slots told
tries_of_slot colour slots told bursts few s lead ts well recorded =
    let f = slot_frames colour slots told bursts lead ts few s well recorded in
    subst (AreTriesTold colour lead ts) f.all
    (behind_lead colour lead ts f.frames f.ended f.last well f.shown f.below f.followed)

-- the tries of both slots are told
pub tries_are_told : TriesAreTold
tries_are_told colour gateway frames told log few whole =
    let both = slots_of_log colour gateway frames told log whole in
    let one : length (recorded_in_slot_1 frames) ≡ length frames = length-map frames _ in
    let two : length (recorded_in_slot_2 frames) ≡ length frames = length-map frames _ in (
      tries_of_slot colour (recorded_in_slot_1 frames) (told_of_slot_1 told) both.bursts_1 (omega (arith, few, one)) both.slot_1,
      tries_of_slot colour (recorded_in_slot_2 frames) (told_of_slot_2 told) both.bursts_2 (omega (arith, few, two)) both.slot_2,
    )
