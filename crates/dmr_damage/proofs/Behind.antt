-- Frames that were given to what damages them.
use Rattle.std.proofs.Common.{◌≡◌, ℕ, zero, suc, ◌+◌, ◌<◌, ◌≤◌, List, [], ◌∷◌, ◌++◌, None, length, drop, get_or}
use Rattle.std.proofs.Common.{refl, sym, ◌∙◌, ap, subst, arith, length-append}
use Rattle.std.specs.List.{AllByRecursion}
use Rattle.std.proofs.lemmas.List.{map-append, get_or-map, length-map}
use Rattle.dmr_record.specs.Uplink.{UplinkSlot, UplinkSlots}
use Rattle.dmr_damage.specs.Frames.{AreLinesBehind, WasGiven, IsLineBehind, each_slot}
use Rattle.dmr_damage.specs.LimitedSlots.{LineState}
use Rattle.dmr_damage.specs.Rates.{AreAtRate, IsFrameAtRate}
use Rattle.dmr_damage.specs.declared.frames.Damager.{Damager}
use Rattle.dmr_damage.specs.declared.frames.Damager.TheVariants.{Limits, Rate}
use Rattle.dmr_damage.specs.declared.frames.LimitedSlots.{LimitedSlots}
use Rattle.dmr_damage.specs.declared.settings.Damage.{Damage}
use Rattle.dmr_damage.specs.declared.settings.Damage.TheVariants.{WithinLimits, AtRate}
use Rattle.dmr_damage.proofs.Running.{IsNext, line_decides, line_oldest, line_waits, two_slots}

-- ---- lists of frames
-- one more frame
pub all_more : (P : UplinkSlots → Type 0) (frames : List UplinkSlots) (frame : UplinkSlots) → AllByRecursion P frames → P frame
    → AllByRecursion P (frames ++ frame ∷ [])
all_more P [] frame all is = (is, tt)
all_more P (f ∷ frames) frame all is = (all.0, all_more P frames frame all.1 is)

-- each frame of a list has what all have
pub all_at : (P : UplinkSlots → Type 0) (frames : List UplinkSlots) (i : ℕ) → AllByRecursion P frames → i < length frames
    → P (get_or frames i [])
all_at P [] i all h = absurd (omega arith)
all_at P (f ∷ frames) zero all h = all.0
all_at P (f ∷ frames) (suc i) all h = all_at P frames i all.1 (omega arith)

-- the slots of one more frame
pub slots_more : (number : ℕ) (frames : List UplinkSlots) (frame : UplinkSlots)
    → each_slot number (frames ++ frame ∷ []) ≡ each_slot number frames ++ get_or frame number None ∷ []
slots_more number frames frame = map-append (λ f. get_or f number None) frames (frame ∷ [])

-- ---- both lines
-- a frame is taken, while fewer than five wait
pub lines_wait : (colour : ℕ) (lines new : LimitedSlots) (frames outs : List UplinkSlots) (frame : UplinkSlots) → lines.waiting < 5
    → length frame ≡ 2 → new.waiting ≡ lines.waiting + 1
    → new.first ≡ record lines.first { slots = drop 1 lines.first.slots ++ get_or frame 0 None ∷ [] }
    → new.second ≡ record lines.second { slots = drop 1 lines.second.slots ++ get_or frame 1 None ∷ [] }
    → AreLinesBehind colour lines frames outs → AreLinesBehind colour new (frames ++ frame ∷ []) outs
lines_wait colour lines new frames outs frame few two more first second is = record {
  few = omega (arith, few, more);
  count = length-append frames (frame ∷ []) ∙ (omega (arith, is.count, more));
  begin = λ h. is.begin few;
  both = all_more (λ f. length f ≡ 2) frames frame is.both two;
  first = rw (more, slots_more 0 frames frame)
      (line_waits colour lines.waiting lines.first new.first (each_slot 0 frames) (each_slot 0 outs) (get_or frame 0 None) few first
      is.first);
  second = rw (more, slots_more 1 frames frame)
      (line_waits colour lines.waiting lines.second new.second (each_slot 1 frames) (each_slot 1 outs) (get_or frame 1 None) few
      second is.second);
}

-- a frame is taken, and the oldest is decided
pub lines_decide : (colour : ℕ) (lines new : LimitedSlots) (one other : LineState) (frames outs : List UplinkSlots)
    (frame : UplinkSlots) (first second was_first was_second : UplinkSlot) → 5 ≤ lines.waiting → length frame ≡ 2
    → new.waiting ≡ lines.waiting
    → IsNext lines.first one new.first (get_or frame 0 None) first
    → IsNext lines.second other new.second (get_or frame 1 None) second
    → was_first ≡ get_or one.slots 0 None → was_second ≡ get_or other.slots 0 None → AreLinesBehind colour lines frames outs
    → AreLinesBehind colour new (frames ++ frame ∷ []) (outs ++ (first ∷ second ∷ []) ∷ [])
    × (was_first ∷ was_second ∷ [] ≡ get_or (frames ++ frame ∷ []) (length outs) [])
lines_decide colour lines new one other frames outs frame first second was_first was_second wait two same next_first next_second
    oldest_first oldest_second is = (
      record {
        few = omega (arith, five, same);
        count = length-append frames (frame ∷ [])
            ∙ (omega (arith, is.count, same, length-append outs ((first ∷ second ∷ []) ∷ [])));
        begin = λ h. absurd (omega (arith, five, same));
        both = both;
        first = rw (same, five, slots_more 0 frames frame, slots_more 0 outs (first ∷ second ∷ []))
            (line_decides colour lines.first one new.first (each_slot 0 frames) (each_slot 0 outs) (get_or frame 0 None) first
            next_first
            line_first);
        second = rw (same, five, slots_more 1 frames frame, slots_more 1 outs (first ∷ second ∷ []))
            (line_decides colour lines.second other new.second (each_slot 1 frames) (each_slot 1 outs) (get_or frame 1 None) second
            next_second line_second);
      },
      whole,
    )
  where
    five : lines.waiting ≡ 5
    five = omega (arith, is.few, wait)

    line_first : IsLineBehind colour 5 lines.first (each_slot 0 frames) (each_slot 0 outs)
    line_first = subst (λ w. IsLineBehind colour w lines.first (each_slot 0 frames) (each_slot 0 outs)) five is.first

    line_second : IsLineBehind colour 5 lines.second (each_slot 1 frames) (each_slot 1 outs)
    line_second = subst (λ w. IsLineBehind colour w lines.second (each_slot 1 frames) (each_slot 1 outs)) five is.second

    both : AllByRecursion (λ f. length f ≡ 2) (frames ++ frame ∷ [])
    both = all_more (λ f. length f ≡ 2) frames frame is.both two

    all : List UplinkSlots
    all = frames ++ frame ∷ []

    inside : length outs < length all
    inside = omega (arith, length-append frames (frame ∷ []), is.count, five)

    at_slot : (number : ℕ) → get_or (each_slot number all) (length outs) None ≡ get_or (get_or all (length outs) []) number None
    at_slot number = get_or-map (λ f. get_or f number None) all (length outs) [] None inside

    as_many : (number : ℕ) → length (each_slot number outs) ≡ length outs
    as_many number = length-map outs (λ f. get_or f number None)

    was : (number : ℕ) (line taken : LineState) → taken ≡ record line { slots = drop 1 line.slots ++ get_or frame number None ∷ [] }
        → IsLineBehind colour 5 line (each_slot number frames) (each_slot number outs)
        → get_or taken.slots 0 None ≡ get_or (get_or all (length outs) []) number None
    was number line taken e behind =
        line_oldest colour line taken (each_slot number frames) (each_slot number outs) (get_or frame number None) e behind
        ∙ ap (λ l. get_or l (length (each_slot number outs)) None) (sym (slots_more number frames frame))
        ∙ ap (λ n. get_or (each_slot number all) n None) (as_many number) ∙ at_slot number

    pair : (a b c d : UplinkSlot) → a ≡ c → b ≡ d → a ∷ b ∷ [] ≡ c ∷ d ∷ []
    pair a b c d e f = cc

    whole : was_first ∷ was_second ∷ [] ≡ get_or all (length outs) []
    whole =
        pair was_first was_second (get_or (get_or all (length outs) []) 0 None) (get_or (get_or all (length outs) []) 1 None)
        (oldest_first ∙ was 0 lines.first one next_first.takes line_first)
        (oldest_second ∙ was 1 lines.second other next_second.takes line_second)
        ∙ two_slots (get_or all (length outs) []) (all_at (λ f. length f ≡ 2) all (length outs) both inside)

-- ---- at a rate
-- one more frame
pub rate_more : (errors loss : ℕ) (frames outs : List UplinkSlots) (frame out : UplinkSlots) → AreAtRate errors loss frames outs
    → IsFrameAtRate errors loss frame out → AreAtRate errors loss (frames ++ frame ∷ []) (outs ++ out ∷ [])
rate_more errors loss [] [] frame out all is = (is, tt)
rate_more errors loss [] (o ∷ outs) frame out all is = absurd all
rate_more errors loss (f ∷ frames) [] frame out all is = absurd all
rate_more errors loss (f ∷ frames) (o ∷ outs) frame out all is = (all.0, rate_more errors loss frames outs frame out all.1 is)

-- there are as many
pub rate_as_many : (errors loss : ℕ) (frames outs : List UplinkSlots) → AreAtRate errors loss frames outs
    → length frames ≡ length outs
rate_as_many errors loss [] [] all = refl
rate_as_many errors loss [] (o ∷ outs) all = absurd all
rate_as_many errors loss (f ∷ frames) [] all = absurd all
rate_as_many errors loss (f ∷ frames) (o ∷ outs) all = ap suc (rate_as_many errors loss frames outs all.1)

-- the last of a list
pub last_at : (frames : List UplinkSlots) (frame : UplinkSlots) (i : ℕ) → i ≡ length frames
    → frame ≡ get_or (frames ++ frame ∷ []) i []
last_at [] frame i e = rw e refl
last_at (f ∷ frames) frame zero e = absurd (omega arith)
last_at (f ∷ frames) frame (suc i) e = last_at frames frame i (omega arith)

-- it damages at these rates
abbrev pub IsRate : (errors loss : ℕ) → Damager → Type 0
IsRate errors loss (Limits lines) = ⊥
IsRate errors loss (Rate e l first second) = (e ≡ errors) × (l ≡ loss)

-- a frame at a rate is taken and decided
pub rate_decides : (damage : Damage) (old new : Damager) (errors loss : ℕ) (frames outs : List UplinkSlots)
    (frame out : UplinkSlots)
    → IsRate errors loss old → IsRate errors loss new → IsFrameAtRate errors loss frame out → WasGiven damage old frames outs
    → WasGiven damage new (frames ++ frame ∷ []) (outs ++ out ∷ []) × (frame ≡ get_or (frames ++ frame ∷ []) (length outs) [])
rate_decides (WithinLimits colour) (Limits lines) new errors loss frames outs frame out a b is behind = absurd a
rate_decides (WithinLimits colour) (Rate e l f s) new errors loss frames outs frame out a b is behind = absurd behind
rate_decides (AtRate e l) (Limits lines) new errors loss frames outs frame out a b is behind = absurd behind
rate_decides (AtRate e l) (Rate e' l' f s) (Limits lines) errors loss frames outs frame out a b is behind = absurd b
rate_decides (AtRate e l) (Rate e' l' f s) (Rate e'' l'' f' s') errors loss frames outs frame out a b is behind = (
  (
    b.0 ∙ sym a.0 ∙ behind.0,
    b.1 ∙ sym a.1 ∙ behind.1,
    rate_more e l frames outs frame out behind.2 (rw (← behind.0, ← behind.1, a.0, a.1) is),
  ),
  last_at frames frame (length outs) (sym (rate_as_many e l frames outs behind.2)),
)
