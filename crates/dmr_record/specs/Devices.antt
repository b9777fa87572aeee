-- What devices say of themselves.
use Rattle.std.specs.Prelude.{ℕ, ◌<◌, List, Option, Bool, true, Result, Ok, Err, length, take}
use Rattle.std.specs.Io.KnownBytes.{Appends}

-- whether a device has failed after a call: an error says so, and what succeeds leaves it as it was
abbrev pub failed_after : {T E : Type 0} → Bool → Result T E → Bool
failed_after before (Ok x) = before
failed_after before (Err e) = true

-- A sink took a front of these octets, and not all of them.
pub record Tears (old new : Option (List ℕ)) (octets : List ℕ) : Type 0 where
  pub count : ℕ
  pub fewer : count < length octets
  pub front : Appends old new (take count octets)

-- A sink took all of the first octets, and then a front of others, and not all of these.
pub record TearsBehind (first : List ℕ) (old new : Option (List ℕ)) (others : List ℕ) : Type 0 where
  pub between : Option (List ℕ)
  pub whole : Appends old between first
  pub torn : Tears between new others
