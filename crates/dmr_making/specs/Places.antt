-- The places of a superframe, by their numbers.
use Rattle.std.specs.Prelude.{ℕ, ◌<◌, Bool, List, [], ◌∷◌, map, zip, Option, Some, None}
use Rattle.dmr_hearing.specs.Slots.{SentSlot}
use Rattle.dmr_link.specs.declared.full_lc.FullLc.{FullLc}
use Rattle.dmr_making.specs.Calls.{place_slot, six_fields}
use Rattle.dmr_making.specs.declared.calls.Voice.{Voice}
use Rattle.dmr_script.specs.declared.shape.Place.{Place}
use Rattle.dmr_script.specs.declared.shape.Place.TheVariants as letter
use Rattle.dmr_voice.specs.declared.place.Place.TheVariants.{A, B, C, D, E, F}

-- the number of a place in its superframe, counted from 0
abbrev pub place_number : Place → ℕ
place_number letter.A = 0
place_number letter.B = 1
place_number letter.C = 2
place_number letter.D = 3
place_number letter.E = 4
place_number letter.F = 5

-- what the places of a superframe with these fields send, where all of them are there
abbrev pub full_slots : ℕ → Bool → Option FullLc → List ℕ → List SentSlot
full_slots colour pi carries fields =
    map (λ p. place_slot colour carries p.0 (Some (record { pi = pi; embedded = p.1 })))
    (zip (A ∷ B ∷ C ∷ D ∷ E ∷ F ∷ []) (six_fields fields))

-- the LCSS of a place that has this fragment of a link control, or nothing
abbrev pub lcss_with : Option FullLc → ℕ → ℕ
lcss_with None fragment = 0
lcss_with (Some lc) fragment = fragment

-- the colour code fits four bits, and the frame is one of a recording
pub record IsFitVoice (v : Voice) : Type 0 where
  pub colour : v.colour < 16
  pub frame : v.frame < 1048576
