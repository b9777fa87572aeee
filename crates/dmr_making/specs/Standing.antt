-- What stands in a place of a list.
use Rattle.std.specs.Prelude.{ℕ, zero, suc, List, [], ◌∷◌}

-- This holds of what stands in a place of a list, counted from 0, where anything does.
abbrev pub HoldsAt : {X : Type 0} → (X → Type 0) → List X → ℕ → Type 0
HoldsAt P [] place = Unit {0}
HoldsAt P (x ∷ xs) zero = P x
HoldsAt P (x ∷ xs) (suc place) = HoldsAt P xs place

-- This holds of what stands in a place of a list, counted from 0, and that holds where nothing does, past its end.
abbrev pub StandsAt : {X : Type 0} → (X → Type 0) → Type 0 → List X → ℕ → Type 0
StandsAt P Past [] place = Past
StandsAt P Past (x ∷ xs) zero = P x
StandsAt P Past (x ∷ xs) (suc place) = StandsAt P Past xs place
