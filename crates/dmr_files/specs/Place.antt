-- How places are written on a command line.
use Rattle.std.specs.Prelude.{◌≡◌, List, ℕ, Bool, true, false, codes}
use Rattle.dmr_files.specs.declared.place.Place.{Place}
use Rattle.dmr_files.specs.declared.place.Place.TheVariants.{Standard, Path}

-- a hyphen stands for a standard stream
abbrev pub IsStandardName : List ℕ → Type 0
IsStandardName name = name ≡ codes "-"

-- A place has this name: a hyphen is a standard stream's, and any other name is a path.
abbrev pub IsNamed : List ℕ → Place → Type 0
IsNamed name Standard = IsStandardName name
IsNamed name (Path path) = (IsStandardName name → ⊥) × (path.now ≡ name)

-- A place is a standard stream's.
abbrev pub is_standard : Place → Bool
is_standard Standard = true
is_standard (Path path) = false

-- the name of a place
abbrev pub name_of : Place → List ℕ
name_of Standard = codes "-"
name_of (Path path) = path.now
