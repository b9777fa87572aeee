-- What is counted of two lists, of slots or of records, and how it is told.
use Rattle.std.specs.Prelude.{◌≡◌, ◌+◌, ◌-◌, ℕ, Bool, List, ◌++◌, not, length, codes, decimal}
use Rattle.std.specs.List.{count_by, zip}
use Rattle.dmr_compare.specs.declared.counts.PlaceCounts.{PlaceCounts}

-- how many places that both lists have are the same
abbrev pub same_places : {X : Type 0} → (is_same : X → X → Bool) → (firsts seconds : List X) → ℕ
same_places is_same firsts seconds = count_by (λ place. is_same place.0 place.1) (zip firsts seconds)

-- how many places that both lists have differ
abbrev pub different_places : {X : Type 0} → (is_same : X → X → Bool) → (firsts seconds : List X) → ℕ
different_places is_same firsts seconds = count_by (λ place. not (is_same place.0 place.1)) (zip firsts seconds)

-- The counts are those of two lists: how many places that both have are the same and differ, and how many slots or records each of
-- them has behind the end of the other one.
pub record AreCountsOf {X : Type 0} (is_same : X → X → Bool) (firsts seconds : List X) (counts : PlaceCounts) : Type 0 where
  pub same : counts.same ≡ same_places is_same firsts seconds
  pub different : counts.different ≡ different_places is_same firsts seconds
  pub only_in_first : counts.only_in_first ≡ length firsts - length seconds
  pub only_in_second : counts.only_in_second ≡ length seconds - length firsts

-- how many there are of all four kinds
abbrev pub places_in : PlaceCounts → ℕ
places_in counts = counts.same + counts.different + counts.only_in_first + counts.only_in_second

-- a number behind a word
abbrev pub word_and_number : List ℕ → ℕ → List ℕ
word_and_number word number = word ++ decimal number

-- the line that tells them, the sum of the four in front
abbrev pub counts_line : PlaceCounts → List ℕ
counts_line counts =
    word_and_number (codes "records ") (places_in counts)
    ++ word_and_number (codes " same ") counts.same
    ++ word_and_number (codes " different ") counts.different
    ++ word_and_number (codes " only-in-A ") counts.only_in_first
    ++ word_and_number (codes " only-in-B ") counts.only_in_second
    ++ codes "\n"
