-- What is printed of the places that two files have.
use Rattle.std.specs.Prelude.{◌≡◌, ◌==◌, ◌||◌, ℕ, Bool, true, false, List, [], ◌∷◌, ◌++◌, Option, Some}
use Rattle.std.specs.Prelude.{if◌then◌else◌, codes, decimal}
use Rattle.std.specs.Io.KnownBytes.{Appends}
use Rattle.dmr_compare.specs.Kept.{differing_in_burst, differing_in_cach, is_same}
use Rattle.dmr_compare.specs.Slots.{ListedSlot}
use Rattle.dmr_compare.specs.declared.difference.Difference.{Difference}
use Rattle.dmr_compare.specs.declared.difference.Difference.TheVariants.{Silence, Bits}
use Rattle.dmr_compare.specs.declared.settings.Ignored.{Ignored}
use Rattle.dmr_compare.specs.declared.settings.CompareSettings.{CompareSettings}
use Rattle.dmr_lines.specs.Line.{IsOneLine, PutsLine, line_octets}

-- what tells how many bits of two CACHs and of two bursts differ: the parts that differ in brackets, and nothing where none does
abbrev pub differing_text : (cach burst : ℕ) → List ℕ
differing_text cach burst =
    if cach == 0
    then (if burst == 0 then [] else codes "  [differ: burst " ++ decimal burst ++ codes "]")
    else codes "  [differ: CACH " ++ decimal cach ++ (if burst == 0 then [] else codes ", burst " ++ decimal burst) ++ codes "]"

-- what tells how many bits differ of two slots, where both have a burst
abbrev pub told_of : Ignored → ListedSlot → ListedSlot → List ℕ
told_of ignored (Some first) (Some second) =
    differing_text (differing_in_cach ignored first second) (differing_in_burst ignored first second)
told_of ignored first second = []

-- what the second line of a difference ends with
abbrev pub ending_of : Difference → List ℕ
ending_of Silence = []
ending_of (Bits differing) = differing_text differing.cach differing.burst

-- A line was put that ends so, behind some text.
pub record PutsLineThatEnds (ending : List ℕ) (old new : Option (List ℕ)) : Type 0 where
  pub shown : List ℕ
  pub one : IsOneLine shown
  pub octets : Appends old new (line_octets (shown ++ ending))

-- Two lines were put, and the second of them ends so.
pub record PutsDifference (ending : List ℕ) (old new : Option (List ℕ)) : Type 0 where
  pub between : Option (List ℕ)
  pub first : PutsLine old between
  pub second : PutsLineThatEnds ending between new

-- Two lines were put, and the second of them ends so, or nothing was where there was no need.
abbrev pub PutsUnless : (is_needless : Bool) → (ending : List ℕ) → (old new : Option (List ℕ)) → Type 0
PutsUnless true ending old new = new ≡ old
PutsUnless false ending old new = PutsDifference ending old new

-- What is put of a place that two recordings have: nothing where its slots are the same or differences are counted alone, and else
-- two lines. The second ends with how many bits differ, where both have a burst.
abbrev pub PutsPlace : CompareSettings → ListedSlot × ListedSlot → (old new : Option (List ℕ)) → Type 0
PutsPlace settings place old new =
    PutsUnless (is_same settings.ignored place.0 place.1 || settings.is_quiet) (told_of settings.ignored place.0 place.1) old new

-- The lines of places were put, one place behind the other, by what is put of a place.
abbrev pub PutsPlaces : {X : Type 0} → (Puts : X × X → (old new : Option (List ℕ)) → Type 0) → List (X × X)
    → (old new : Option (List ℕ)) → Type 0
PutsPlaces Puts [] old new = new ≡ old
PutsPlaces Puts (place ∷ places) old new =
    (between : Option (List ℕ)) × Puts place old between × PutsPlaces Puts places between new
