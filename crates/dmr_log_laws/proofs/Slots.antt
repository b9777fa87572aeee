-- A log of both slots, slot by slot.
use Rattle.std.proofs.Common.{◌≡◌, ℕ, ◌+◌, ◌-◌, ◌*◌, ◌<◌, ◌≤◌, ◌^◌, Bool, cond, List, [], ◌∷◌, length}
use Rattle.std.proofs.Common.{count_by}
use Rattle.std.proofs.Common.{Option, Some, None, refl, ap, ◌∙◌, subst, arith, is_some}
use Rattle.std.proofs.lemmas.List.Sums.{sum_by-cons}
use Rattle.dmr_burst.specs.declared.burst.Burst.{Burst}
use Rattle.dmr_gateway.specs.declared.received.Received.{Received}
use Rattle.dmr_log.specs.LogRules.{with_subject, with_records, with_repeated, with_ended, with_ends, with_one}
use Rattle.dmr_log.specs.RecordingLogs.{Logs, RecordedFrames}
use Rattle.dmr_log.specs.SlotTracks.{IsPassed, SlotTrack}
use Rattle.dmr_log.specs.Transmissions.{plus_one}
use Rattle.dmr_log.specs.declared.log.FrameTold.{FrameTold}
use Rattle.dmr_log.specs.declared.log.LogCounts.{LogCounts}
use Rattle.dmr_log.specs.declared.log.LogState.{LogState}
use Rattle.dmr_log.specs.declared.slot_log.SlotTold.{SlotTold}
use Rattle.dmr_log.specs.declared.transmission.Ended.{Ended}
use Rattle.dmr_log.specs.declared.transmission.Subject.{Subject}
use Rattle.dmr_log.specs.declared.transmission.Subject.TheVariants.{Call, Packet, Controls}
use Rattle.dmr_log_laws.specs.WholeLogs.{recorded_in_slot_1, recorded_in_slot_2, told_of_slot_1, told_of_slot_2}

-- 1. What one slot does.

-- Slots are passed one after another, behind so many that were taken: this is told of each, and these bursts are repeated.
abbrev pub ArePassed : SlotTrack → ℕ → List (Option (List ℕ)) → List SlotTold → List (Option Burst) → SlotTrack → Type 0
ArePassed track n [] [] [] after = after ≡ track
ArePassed track n (slot ∷ slots) (told ∷ tolds) (b ∷ bursts) after =
    (next : SlotTrack) × IsPassed track slot (n - 5) told b next × ArePassed next (n + 1) slots tolds bursts after
ArePassed track n slots tolds bursts after = ⊥

-- 2. What is counted.

-- Received records change no count of repeated bursts.
pub records_repeat : (rs : List (Option Received)) (c : LogCounts) → (with_records rs c).repeated ≡ c.repeated
records_repeat [] c = refl
records_repeat (r ∷ rs) c = records_repeat rs (with_one r c)

subject_repeats : (s : Subject) (c : LogCounts) → (with_subject s c).repeated ≡ c.repeated
subject_repeats (Call x) c = refl
subject_repeats (Packet x) c = refl
subject_repeats (Controls x) c = refl

ended_repeats : (e : Option Ended) (c : LogCounts) → (with_ended e c).repeated ≡ c.repeated
ended_repeats None c = refl
ended_repeats (Some e) c = subject_repeats e.transmission.subject c

-- Ends of slots change no count of repeated bursts.
pub ends_repeat : (a b : SlotTold) (c : LogCounts) → (with_ends a b c).repeated ≡ c.repeated
ends_repeat a b c = ended_repeats b.ended (with_ended a.ended c) ∙ ended_repeats a.ended c

-- one where a burst is repeated
abbrev one_if : Option Burst → ℕ
one_if b = cond (is_some b) 1 0

two_at_most : (a b : Option Burst) → one_if a + one_if b ≤ 2
two_at_most None None = omega arith
two_at_most None (Some b) = omega arith
two_at_most (Some a) None = omega arith
two_at_most (Some a) (Some b) = omega arith

two_more : (a b : Option Burst) (n : ℕ) → n + 2 < 2 ^ 32 → plus_one (is_some b) (plus_one (is_some a) n) ≡ n + one_if a + one_if b
two_more None None n below = omega arith
two_more None (Some b) n below = omega arith
two_more (Some a) None n below = omega arith
two_more (Some a) (Some b) n below = omega arith

frame_counts : (rs : List (Option Received)) (a b : SlotTold) (x y : Option Burst) (c : LogCounts) → c.repeated + 2 < 2 ^ 32
    → (with_records rs (with_repeated x y (with_ends a b c))).repeated ≡ c.repeated + one_if x + one_if y
frame_counts rs a b x y c below =
    let same = ends_repeat a b c in
    records_repeat rs (with_repeated x y (with_ends a b c)) ∙ ap (λ n. plus_one (is_some y) (plus_one (is_some x) n)) same
    ∙ two_more x y c.repeated below

-- a count of one element more
pub counted_cons : {X : Type 0} (f : X → Bool) (x : X) (xs : List X) → count_by f (x ∷ xs) ≡ cond (f x) 1 0 + count_by f xs
counted_cons f x xs = sum_by-cons (λ y. cond (f y) 1 0) x xs

-- 3. Both slots.

-- What a log did in both slots, from frame to frame.
pub record AreBothPassed (log : LogState) (frames : RecordedFrames) (told : List FrameTold) (end : LogState) : Type 0 where
  pub bursts_1 : List (Option Burst)
  pub bursts_2 : List (Option Burst)
  pub passed_1 : ArePassed log.first log.taken (recorded_in_slot_1 frames) (told_of_slot_1 told) bursts_1 end.first
  pub passed_2 : ArePassed log.second log.taken (recorded_in_slot_2 frames) (told_of_slot_2 told) bursts_2 end.second
  pub counts : log.counts.repeated + 2 * length frames < 2 ^ 32
      → end.counts.repeated ≡ log.counts.repeated + count_by is_some bursts_1 + count_by is_some bursts_2

counts_more : (a b c d e f g m n : ℕ) → b ≡ a + c + d → e ≡ b + f + g → m ≡ c + f → n ≡ d + g → e ≡ a + m + n
counts_more a b c d e f g m n p q r s = omega (arith, p, q, r, s)

-- whatever a log takes, it does in both slots
pub both_passed : (log : LogState) (frames : RecordedFrames) (told : List FrameTold) (end : LogState) → Logs log frames told end
    → AreBothPassed log frames told end
both_passed log [] told end (none, same) = rw (none, same) (record {
  bursts_1 = [];
  bursts_2 = [];
  passed_1 = refl;
  passed_2 = refl;
  counts = λ below. omega arith;
})
both_passed log (frame ∷ frames) [] end logs = absurd logs
both_passed log (frame ∷ frames) (one ∷ told) end (next, logged, is, rest) =
    let more = both_passed next frames told end rest in
    rw is (record {
      bursts_1 = logged.burst_1 ∷ more.bursts_1;
      bursts_2 = logged.burst_2 ∷ more.bursts_2;
      passed_1 = (
        next.first,
        logged.passed_1,
        subst (λ (n : ℕ). ArePassed next.first n (recorded_in_slot_1 frames) (told_of_slot_1 told) more.bursts_1 end.first)
            logged.taken more.passed_1,
      );
      passed_2 = (
        next.second,
        logged.passed_2,
        subst (λ (n : ℕ). ArePassed next.second n (recorded_in_slot_2 frames) (told_of_slot_2 told) more.bursts_2 end.second)
            logged.taken more.passed_2,
      );
      counts = λ below.
          let long : length (frame ∷ frames) ≡ length frames + 1 = omega arith in
          let one : next.counts.repeated ≡ log.counts.repeated + one_if logged.burst_1 + one_if logged.burst_2 =
          ap (λ (c : LogCounts). c.repeated) logged.counts
          ∙ frame_counts next.told.received next.told.slot_1 next.told.slot_2 logged.burst_1 logged.burst_2 log.counts
          (omega (arith, below, long)) in
          let both_1 = two_at_most logged.burst_1 logged.burst_2 in
          counts_more log.counts.repeated next.counts.repeated (one_if logged.burst_1) (one_if logged.burst_2) end.counts.repeated
          (count_by is_some more.bursts_1) (count_by is_some more.bursts_2) (count_by is_some (logged.burst_1 ∷ more.bursts_1))
          (count_by is_some (logged.burst_2 ∷ more.bursts_2)) one (more.counts (omega (arith, below, long, one, both_1)))
          (counted_cons is_some logged.burst_1 more.bursts_1) (counted_cons is_some logged.burst_2 more.bursts_2);
    })
