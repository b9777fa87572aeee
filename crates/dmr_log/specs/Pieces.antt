-- How the transmissions of a slot share out its frames: each frame that repeats a burst is in exactly one of them.
use Rattle.std.specs.Prelude.{◌≡◌, ℕ, ◌+◌, ◌<◌, ◌^◌, List, [], ◌∷◌, ◌++◌, Option, None, length, map, count_by, sum_by}
use Rattle.std.specs.Prelude.{option_to_list}
use Rattle.std.specs.Prelude.{option_map}
use Rattle.dmr_log.specs.Transmissions.{IsStep, is_burst}
use Rattle.dmr_log.specs.declared.checks.Checks.{Checks}
use Rattle.dmr_log.specs.declared.repeated.Repeated.{Repeated}
use Rattle.dmr_log.specs.declared.repeated.Repeated.TheVariants.{Nothing}
use Rattle.dmr_log.specs.declared.transmission.Ended.{Ended}
use Rattle.dmr_log.specs.declared.transmission.Transmission.{Transmission}

-- 1. Frames, one after another.

-- What a frame repeats, with the bits of its burst that count.
abbrev pub RepeatedFrame : Type 0
RepeatedFrame = Repeated × Checks

-- These frames follow, the first of which has this number: these transmissions end, and this one is open behind the last frame.
abbrev pub AreFollowed : Option Transmission → ℕ → List RepeatedFrame → List Transmission → Option Transmission → Type 0
AreFollowed current n [] ended after = (ended ≡ []) × (after ≡ current)
AreFollowed current n (frame ∷ frames) ended after =
    (one : Option Ended) × (next : Option Transmission) × (rest : List Transmission)
    × IsStep current n frame.0 frame.1 one next
    × (ended ≡ option_to_list (option_map (λ (e : Ended). e.transmission) one) ++ rest)
    × AreFollowed next (n + 1) frames rest after

-- 2. Pieces.

-- A piece of a slot: a frame that repeats nothing and is of no transmission, or a transmission with what its frames repeat.
pub data Portion : Type 0 where
  Rest : Portion
  Whole : (transmission : Transmission) (repeats : List Repeated) → Portion

-- what the frames of these pieces repeat, in order
abbrev pub repeats_of : List Portion → List Repeated
repeats_of [] = []
repeats_of (Rest ∷ pieces) = Nothing ∷ repeats_of pieces
repeats_of (Whole t repeats ∷ pieces) = repeats ++ repeats_of pieces

-- their transmissions, in order
abbrev pub transmissions_of : List Portion → List Transmission
transmissions_of [] = []
transmissions_of (Rest ∷ pieces) = transmissions_of pieces
transmissions_of (Whole t repeats ∷ pieces) = t ∷ transmissions_of pieces

-- The span of a transmission tells the frames that it has: the first, how many there are, and how many of them repeat a burst.
pub record TellsFrames (first : ℕ) (t : Transmission) (repeats : List Repeated) : Type 0 where
  pub begins : t.span.first ≡ first
  pub frames : t.span.frames ≡ length repeats
  pub bursts : t.span.bursts ≡ count_by is_burst repeats

-- Each transmission of these pieces tells its frames, where the first piece begins in this frame.
abbrev pub AreTold : ℕ → List Portion → Type 0
AreTold n [] = Unit {0}
AreTold n (Rest ∷ pieces) = AreTold (n + 1) pieces
AreTold n (Whole t repeats ∷ pieces) = TellsFrames n t repeats × AreTold (n + length repeats) pieces

-- Frames are shared out among pieces, which are these transmissions and frames that repeat nothing.
pub record AreSharedOut (n : ℕ) (repeats : List Repeated) (transmissions : List Transmission) : Type 0 where
  pub pieces : List Portion
  pub frames : repeats_of pieces ≡ repeats
  pub told : transmissions_of pieces ≡ transmissions
  pub tells : AreTold n pieces

-- 3. The laws.

-- The transmissions of a slot, the one that is open at the end too, share out its frames. So each frame that repeats a burst is in
-- exactly one of them, and each of them tells its own frames.
abbrev pub EachBurstIsInOne : Type 0
EachBurstIsInOne =
    (frames : List RepeatedFrame) (ended : List Transmission) (last : Option Transmission) →
    length frames < 2 ^ 32 → AreFollowed None 0 frames ended last →
    AreSharedOut 0 (map (λ (frame : RepeatedFrame). frame.0) frames) (ended ++ option_to_list last)

-- The bursts that they tell are as many as are repeated.
abbrev pub AllBurstsAreTold : Type 0
AllBurstsAreTold =
    (frames : List RepeatedFrame) (ended : List Transmission) (last : Option Transmission) →
    length frames < 2 ^ 32 → AreFollowed None 0 frames ended last →
    sum_by (λ (t : Transmission). t.span.bursts) (ended ++ option_to_list last)
    ≡ count_by is_burst (map (λ (frame : RepeatedFrame). frame.0) frames)
