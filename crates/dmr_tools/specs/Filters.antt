-- Which lines a command line asks for.
use Rattle.std.specs.Prelude.{nat_lt, ℕ, Bool, false, Option, Some, None, codes}
use Rattle.clap.specs.declared.parser.matches.Found.{Found}
use Rattle.dmr_options.specs.Found.{IsGivenBy}
use Rattle.dmr_show.specs.declared.filter.Filter.{Filter}

-- Each part of a filter is the number of the option of its name, where that is given.
pub record IsFilterOf (found : Found) (filter : Filter) : Type 0 where
  pub slot : IsGivenBy 8 found (codes "slot") filter.slot
  pub from : IsGivenBy 32 found (codes "from") filter.from
  pub to : IsGivenBy 32 found (codes "to") filter.to

-- a first frame is beyond a last one, where both are given
abbrev pub are_backwards : Option ℕ → Option ℕ → Bool
are_backwards (Some from) (Some to) = nat_lt to from
are_backwards (Some from) None = false
are_backwards None to = false

-- The filter begins beyond its end.
abbrev pub is_backwards : Filter → Bool
is_backwards filter = are_backwards filter.from filter.to
