-- The places of voice bursts in superframes: which one follows (rule), and which one a frame stands in (meaning).
use Rattle.std.specs.Prelude.{ℕ, ◌<◌, List, [], ◌∷◌, Option, Some, None, slice_index_or, option_and_then}
use Rattle.dmr_listing.specs.declared.voice_place.VoicePlace.{VoicePlace}
use Rattle.dmr_listing.specs.declared.voice_place.VoicePlace.TheVariants.{A, B, C, D, E, F}
use Rattle.dmr_reading.specs.declared.reading.Reading.{Reading}
use Rattle.dmr_reading.specs.declared.reading.Reading.TheVariants.{Data, Untyped, VoiceSync}

-- the place a frame behind this one
abbrev pub following : VoicePlace → Option VoicePlace
following A = Some B
following B = Some C
following C = Some D
following D = Some E
following E = Some F
following F = None

-- The place of a frame, by the place of the frame before it and by what it is read as, silence as nothing.
abbrev pub place_after : Option VoicePlace → Option Reading → Option VoicePlace
place_after before (Some (VoiceSync side)) = Some A
place_after before (Some (Data side slot_type information)) = None
place_after before (Some (Untyped side)) = None
place_after before reading = option_and_then following before

-- the place of the newest frame, by what all frames of a slot were read as, the newest first
abbrev pub voice_place_of : List (Option Reading) → Option VoicePlace
voice_place_of [] = None
voice_place_of (reading ∷ earlier) = place_after (voice_place_of earlier) reading

-- how many frames behind its voice sync a place stands
abbrev pub frames_behind : VoicePlace → ℕ
frames_behind A = 0
frames_behind B = 1
frames_behind C = 2
frames_behind D = 3
frames_behind E = 4
frames_behind F = 5

-- it begins a superframe
abbrev pub IsVoiceSync : Option Reading → Type 0
IsVoiceSync (Some (VoiceSync side)) = Unit {0}
IsVoiceSync reading = ⊥

-- it neither begins nor ends one
abbrev pub IsWithin : Option Reading → Type 0
IsWithin (Some (VoiceSync side)) = ⊥
IsWithin (Some (Data side slot_type information)) = ⊥
IsWithin (Some (Untyped side)) = ⊥
IsWithin reading = Unit {0}

-- The newest frame stands in this place: so many frames before it the slot had a voice sync, and no frame since then
-- begins or ends a superframe.
pub record StandsIn (place : VoicePlace) (readings : List (Option Reading)) : Type 0 where
  pub begins : IsVoiceSync (slice_index_or readings (frames_behind place) None)
  pub since : (frame : ℕ) → frame < frames_behind place → IsWithin (slice_index_or readings frame None)
