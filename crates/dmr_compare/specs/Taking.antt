-- What is counted and printed of what was found next in two files, slots or records.
use Rattle.std.specs.Prelude.{◌≡◌, ℕ, ◌+◌, ◌-◌, ◌^◌, ◌<◌, Bool, List, [], ◌∷◌, Option, Some, None, if◌then◌else◌}
use Rattle.dmr_compare.specs.declared.counts.PlaceCounts.{PlaceCounts}

-- what was found next, as a list of it, or of nothing
abbrev pub found_next : {X : Type 0} → Option X → List X
found_next None = []
found_next (Some found) = found ∷ []

-- one more can be counted of each kind
pub record HasRoom (counts : PlaceCounts) : Type 0 where
  pub same : counts.same < 2 ^ 32 - 1
  pub different : counts.different < 2 ^ 32 - 1
  pub only_in_first : counts.only_in_first < 2 ^ 32 - 1
  pub only_in_second : counts.only_in_second < 2 ^ 32 - 1

-- a place that both have is counted, by whether it is the same in both
abbrev pub counted_place : Bool → PlaceCounts → PlaceCounts
counted_place is_same counts = record {
  same = if is_same then counts.same + 1 else counts.same;
  different = if is_same then counts.different else counts.different + 1;
  only_in_first = counts.only_in_first;
  only_in_second = counts.only_in_second;
}

-- what the first has alone is counted
abbrev pub counted_first : PlaceCounts → PlaceCounts
counted_first counts = record {
  same = counts.same;
  different = counts.different;
  only_in_first = counts.only_in_first + 1;
  only_in_second = counts.only_in_second;
}

-- what the second has alone is
abbrev pub counted_second : PlaceCounts → PlaceCounts
counted_second counts = record {
  same = counts.same;
  different = counts.different;
  only_in_first = counts.only_in_first;
  only_in_second = counts.only_in_second + 1;
}

-- what was found next in both is counted
abbrev pub counted_found : {X : Type 0} → (is_same : X → X → Bool) → (first second : Option X) → PlaceCounts → PlaceCounts
counted_found is_same (Some first) (Some second) counts = counted_place (is_same first second) counts
counted_found is_same (Some first) None counts = counted_first counts
counted_found is_same None (Some second) counts = counted_second counts
counted_found is_same None None counts = counts

-- What was found next in both is put, by what is put of a place: of one that both have.
abbrev pub PutsFound : {X : Type 0} → (Puts : X × X → (old new : Option (List ℕ)) → Type 0) → (first second : Option X)
    → (old new : Option (List ℕ)) → Type 0
PutsFound Puts (Some first) (Some second) old new = Puts (first, second) old new
PutsFound Puts first second old new = new ≡ old
