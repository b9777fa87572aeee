-- Which files of a run are standard streams.
use Rattle.std.specs.Prelude.{◌&&◌, ◌||◌, Bool, false, Option, Some, None}
use Rattle.dmr_files.specs.Place.{is_standard}
use Rattle.dmr_files.specs.declared.place.Place.{Place}
use Rattle.dmr_command.specs.declared.places.Places.{Places}

-- A place is a standard stream's, where there is one.
abbrev pub is_standard_if_any : Option Place → Bool
is_standard_if_any None = false
is_standard_if_any (Some place) = is_standard place

-- Both inputs are standard input.
abbrev pub share_input : Places → Bool
share_input places = is_standard places.uplink && is_standard_if_any places.outgoing

-- Both outputs are standard output.
abbrev pub share_output : Places → Bool
share_output places = is_standard places.downlink && is_standard_if_any places.received

-- Standard output is a file of the run.
abbrev pub take_output : Places → Bool
take_output places = is_standard places.downlink || is_standard_if_any places.received
