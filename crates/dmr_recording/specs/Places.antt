-- What has a line of its own, and where it stands.
use Rattle.std.specs.Prelude.{ℕ, ◌+◌, ◌-◌, ◌*◌, ◌/◌, ◌%◌, List, [], ◌∷◌, Option, Some, None, length}
use Rattle.std.specs.List.{flat_map}
use Rattle.dmr_recording.specs.declared.place.Place.{Place}

-- the place of a slot, by its number among the slots of a file from 0 on
abbrev pub place_by_number : ℕ → Place
place_by_number number = record { frame = number / 2; slot = number % 2 + 1 }

-- The bursts of a recording from the slot of this number on, each with its place. Silence has no line.
abbrev pub entries : {X : Type 0} → ℕ → List (Option X) → List (Place × X)
entries number [] = []
entries number (None ∷ slots) = entries (number + 1) slots
entries number (Some burst ∷ slots) = (place_by_number number, burst) ∷ entries (number + 1) slots

-- the milliseconds at which a place begins: a frame takes 60, and slot 2 begins behind 30
abbrev pub milliseconds : Place → ℕ
milliseconds place = 60 * place.frame + 30 * (place.slot - 1)

-- Where a record of a file begins, in octets: behind a head of eight and all records before it.
abbrev pub octet_behind : {X : Type 0} → (X → List ℕ) → List X → ℕ
octet_behind spelling records = 8 + length (flat_map spelling records)
