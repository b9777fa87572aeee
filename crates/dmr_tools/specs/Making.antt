-- What a command line of `make` asks for, and which outputs it may write.
use Rattle.std.specs.Prelude.{◌≡◌, ◌&&◌, ◌||◌, Bool, false, Option, Some, None, codes}
use Rattle.clap.specs.Words.{Text, first_value}
use Rattle.clap.specs.declared.parser.matches.Found.{Found}
use Rattle.dmr_files.specs.Place.{IsNamed, is_standard}
use Rattle.dmr_files.specs.declared.place.Place.{Place}
use Rattle.dmr_options.specs.Found.{text_of}
use Rattle.dmr_tools.specs.declared.make_places.MakePlaces.{MakePlaces}

-- the place that an option names, where it is given
abbrev pub IsNamedIfGiven : Found → Text → Option Place → Type 0
IsNamedIfGiven found option None = first_value found option ≡ None
IsNamedIfGiven found option (Some place) = (name : Text) × (first_value found option ≡ Some name) × IsNamed name place

-- The places are those of the words `script` and `uplink`, and of the option `outgoing`, where it is given.
pub record AreMakePlaces (found : Found) (places : MakePlaces) : Type 0 where
  pub script : IsNamed (text_of found (codes "script")) places.script
  pub uplink : IsNamed (text_of found (codes "uplink")) places.uplink
  pub outgoing : IsNamedIfGiven found (codes "outgoing") places.outgoing

-- A place that may be left out is a standard stream's.
abbrev pub is_list_to_output : Option Place → Bool
is_list_to_output (Some place) = is_standard place
is_list_to_output None = false

-- Both outputs are standard output.
abbrev pub are_both_to_output : MakePlaces → Bool
are_both_to_output places = is_standard places.uplink && is_list_to_output places.outgoing

-- An output is standard output.
abbrev pub is_any_to_output : MakePlaces → Bool
is_any_to_output places = is_standard places.uplink || is_list_to_output places.outgoing
