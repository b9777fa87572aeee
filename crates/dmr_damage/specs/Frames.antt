-- Frames, damaged in their order.
use Rattle.std.specs.Prelude.{◌≡◌, ℕ, ◌+◌, ◌-◌, ◌<◌, ◌≤◌, List, [], None, drop, length, map, slice_index_or}
use Rattle.std.specs.List.{AllByRecursion}
use Rattle.dmr_record.specs.Uplink.{UplinkSlot, UplinkSlots}
use Rattle.dmr_damage.specs.LimitedSlots.{LineState, Runs, IsDamagedLine, fresh_memory}
use Rattle.dmr_damage.specs.Rates.{AreAtRate}
use Rattle.dmr_damage.specs.declared.frames.Damager.{Damager}
use Rattle.dmr_damage.specs.declared.frames.Damager.TheVariants.{Limits, Rate}
use Rattle.dmr_damage.specs.declared.frames.LimitedSlots.{LimitedSlots}
use Rattle.dmr_damage.specs.declared.settings.Damage.{Damage}
use Rattle.dmr_damage.specs.declared.settings.Damage.TheVariants.{WithinLimits, AtRate}

-- slot 1, by 0, or slot 2, by 1, of each frame
abbrev pub each_slot : ℕ → List UplinkSlots → List UplinkSlot
each_slot number frames = map (λ frame. slice_index_or frame number None) frames

-- The front of what a recording is written as: each slot within the limits, or all of it at a rate.
abbrev pub AreDamagedBy : Damage → (frames outs : List UplinkSlots) → Type 0
AreDamagedBy (WithinLimits colour) frames outs =
    IsDamagedLine colour (each_slot 0 frames) (each_slot 0 outs) × IsDamagedLine colour (each_slot 1 frames) (each_slot 1 outs)
AreDamagedBy (AtRate errors loss) frames outs = AreAtRate errors loss frames outs

-- A line of this colour code was given these slots, and these were decided; the last of its places wait.
pub record IsLineBehind (colour waiting : ℕ) (line : LineState) (slots outs : List UplinkSlot) : Type 0 where
  pub same : line.colour ≡ colour
  pub six : length line.slots ≡ 6
  pub run : Runs colour fresh_memory slots outs line.memory (drop (6 - waiting) line.slots)

-- Both lines were given these frames, and these were decided; so many wait.
pub record AreLinesBehind (colour : ℕ) (lines : LimitedSlots) (frames outs : List UplinkSlots) : Type 0 where
  pub few : lines.waiting ≤ 5
  pub count : length frames ≡ length outs + lines.waiting
  pub begin : lines.waiting < 5 → outs ≡ []
  pub both : AllByRecursion (λ frame. length frame ≡ 2) frames
  pub first : IsLineBehind colour lines.waiting lines.first (each_slot 0 frames) (each_slot 0 outs)
  pub second : IsLineBehind colour lines.waiting lines.second (each_slot 1 frames) (each_slot 1 outs)

-- What damages frames was given these by these settings, and these were decided.
abbrev pub WasGiven : Damage → Damager → (frames outs : List UplinkSlots) → Type 0
WasGiven (WithinLimits colour) (Limits lines) frames outs = AreLinesBehind colour lines frames outs
WasGiven (WithinLimits colour) (Rate e l first second) frames outs = ⊥
WasGiven (AtRate errors loss) (Limits lines) frames outs = ⊥
WasGiven (AtRate errors loss) (Rate e l first second) frames outs = (e ≡ errors) × (l ≡ loss) × AreAtRate errors loss frames outs

-- how many silent frames it takes until all are decided
abbrev pub rest_of : Damager → ℕ
rest_of (Limits lines) = 5
rest_of (Rate errors loss first second) = 0
