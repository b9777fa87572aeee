-- What the words of a command line ask for.
use Rattle.std.specs.Prelude.{◌≡◌, ◌⊎◌, ℕ, Bool, true, false, [], Option, Some, None, codes, option_map}
use Rattle.clap.specs.Words.{Text, found_of, rows_of, subcommand_name_of, subcommand_rows_of}
use Rattle.clap.specs.declared.parser.matches.ArgMatches.{ArgMatches}
use Rattle.clap.specs.declared.parser.matches.Found.{Found}
use Rattle.dmr_files.specs.Place.{IsNamed, is_standard}
use Rattle.dmr_options.specs.Found.{IsFlagOf, IsNumberOf, text_of}
use Rattle.dmr_show.specs.declared.filter.Filter.{Filter}
use Rattle.dmr_show.specs.declared.form.Form.{Form}
use Rattle.dmr_show.specs.declared.form.Form.TheVariants as form_variant
use Rattle.dmr_tools.specs.Comparison.{IsComparisonOf, shares_input}
use Rattle.dmr_tools.specs.Damaging.{IsDamageOf}
use Rattle.dmr_tools.specs.Datagrams.{AreExportSettings, AreImportSettings}
use Rattle.dmr_tools.specs.Filters.{IsFilterOf, is_backwards}
use Rattle.dmr_tools.specs.Hotspot.{AreBurstSettings, AreHotspotSettings}
use Rattle.dmr_tools.specs.LogRequest.{AreLogSettings, ArePageSettings}
use Rattle.dmr_tools.specs.Making.{AreMakePlaces, are_both_to_output, is_any_to_output}
use Rattle.dmr_tools.specs.declared.comparison.Comparison.{Comparison}
use Rattle.dmr_tools.specs.declared.make_places.MakePlaces.{MakePlaces}
use Rattle.dmr_tools.specs.declared.request.ExportFormat.{ExportFormat}
use Rattle.dmr_tools.specs.declared.request.ExportFormat.TheVariants as to
use Rattle.dmr_tools.specs.declared.request.ImportFormat.{ImportFormat}
use Rattle.dmr_tools.specs.declared.request.ImportFormat.TheVariants as from
use Rattle.dmr_tools.specs.declared.request.PairPlaces.{PairPlaces}
use Rattle.dmr_tools.specs.declared.request.Request.{Request}
use Rattle.dmr_tools.specs.declared.request.Request.TheVariants.{Show, Backwards, Log, LogPage, LogRefused, Make, SharedOutput}
use Rattle.dmr_tools.specs.declared.request.Request.TheVariants.{Damage, Compare, SharedInput, Import, Export, NoStart, Elsewhere}

-- a strip where it is asked for, JSON where that alone is, and else a listing
abbrev pub form_by : Bool → Bool → Form
form_by true json = form_variant.Strip
form_by false true = form_variant.Json
form_by false false = form_variant.Listing

-- The form is that of the options `strip` and `json`.
pub record IsFormOf (found : Found) (form : Form) : Type 0 where
  pub strip : Bool
  pub strip_flag : IsFlagOf found (codes "strip") strip
  pub json : Bool
  pub json_flag : IsFlagOf found (codes "json") json
  pub value : form ≡ form_by strip json

-- A command was given one of its own, of the name of a format, with this that was found of it.
pub record IsGivenFormat (given : ArgMatches) (format : Text) (found : Found) : Type 0 where
  pub name : subcommand_name_of given ≡ Some format
  pub rows : option_map (λ subcommand. subcommand.1) (subcommand_rows_of given) ≡ Some (rows_of found)

-- The names of formats.
abbrev pub import_name : ImportFormat → Text
import_name from.Text = codes "text"
import_name (from.Datagrams settings) = codes "datagrams"
import_name (from.Dmrd settings) = codes "dmrd"

abbrev pub export_name : ExportFormat → Text
export_name to.Text = codes "text"
export_name (to.Datagrams settings) = codes "datagrams"
export_name (to.Dmrd settings) = codes "dmrd"

-- A format's settings are those of its options. Texts have none.
abbrev pub AreSettingsOfImport : Found → ImportFormat → Type 0
AreSettingsOfImport found from.Text = Unit {0}
AreSettingsOfImport found (from.Datagrams settings) = AreImportSettings found settings
AreSettingsOfImport found (from.Dmrd settings) = AreHotspotSettings found settings

abbrev pub AreSettingsOfExport : Found → ExportFormat → Type 0
AreSettingsOfExport found to.Text = Unit {0}
AreSettingsOfExport found (to.Datagrams settings) = AreExportSettings found settings
AreSettingsOfExport found (to.Dmrd settings) = AreBurstSettings found settings

-- The places are those of the words `input` and `output`.
pub record ArePairPlaces (found : Found) (places : PairPlaces) : Type 0 where
  pub input : IsNamed (text_of found (codes "input")) places.input
  pub output : IsNamed (text_of found (codes "output")) places.output

-- `import` was given the name of this format, with its settings and these places behind it.
pub record IsImportedFrom (given : ArgMatches) (format : ImportFormat) (places : PairPlaces) : Type 0 where
  pub found : Found
  pub of_format : IsGivenFormat given (import_name format) found
  pub are_settings : AreSettingsOfImport found format
  pub are_places : ArePairPlaces found places

-- `export` was given the name of this format, with its settings and these places behind it.
pub record IsExportedTo (given : ArgMatches) (format : ExportFormat) (places : PairPlaces) : Type 0 where
  pub found : Found
  pub of_format : IsGivenFormat given (export_name format) found
  pub are_settings : AreSettingsOfExport found format
  pub are_places : ArePairPlaces found places

-- `import` was given the name of a format.
abbrev pub NamesImport : ArgMatches → Type 0
NamesImport given = (subcommand_name_of given ≡ Some (codes "text")) ⊎ (subcommand_name_of given ≡ Some (codes "datagrams"))
    ⊎ (subcommand_name_of given ≡ Some (codes "dmrd"))

-- `export` was given the name of a format that is a capture.
abbrev pub NamesCapture : ArgMatches → Type 0
NamesCapture given = (subcommand_name_of given ≡ Some (codes "datagrams")) ⊎ (subcommand_name_of given ≡ Some (codes "dmrd"))

-- `export` was given the name of a format.
abbrev pub NamesExport : ArgMatches → Type 0
NamesExport given = (subcommand_name_of given ≡ Some (codes "text")) ⊎ (subcommand_name_of given ≡ Some (codes "datagrams"))
    ⊎ (subcommand_name_of given ≡ Some (codes "dmrd"))

-- What a command with these options asks for: `show` for a listing, which is refused where it begins beyond its end; `log` for a
-- log, for its page, or for one that is refused; `make` for the files of a script, which are refused where both would be standard
-- output; `damage` for a recording with wrong bits; `compare` for a comparison, which is refused where both files would be standard
-- input; `import` for a file from another format, and `export` for one in it, which is refused where it begins at what is no time;
-- and any other what isn't done here.
abbrev pub IsAskedOfTools : Option (Text × ArgMatches) → Request → Type 0
IsAskedOfTools None (Show name form filter) = ⊥
IsAskedOfTools None Backwards = ⊥
IsAskedOfTools None (Log name settings) = ⊥
IsAskedOfTools None (LogPage name settings) = ⊥
IsAskedOfTools None (LogRefused refusal) = ⊥
IsAskedOfTools None (Make places) = ⊥
IsAskedOfTools None SharedOutput = ⊥
IsAskedOfTools None (Damage damage seed places) = ⊥
IsAskedOfTools None (Compare comparison) = ⊥
IsAskedOfTools None SharedInput = ⊥
IsAskedOfTools None (Import format places) = ⊥
IsAskedOfTools None (Export format places) = ⊥
IsAskedOfTools None NoStart = ⊥
IsAskedOfTools None (Elsewhere name) = name.now ≡ []
IsAskedOfTools (Some command) (Show name form filter) =
    (command.0 ≡ codes "show") × (name.now ≡ text_of (found_of command.1) (codes "file")) × IsFormOf (found_of command.1) form
    × IsFilterOf (found_of command.1) filter × (is_backwards filter ≡ false)
IsAskedOfTools (Some command) Backwards =
    (command.0 ≡ codes "show") × ((filter : Filter) × IsFilterOf (found_of command.1) filter × (is_backwards filter ≡ true))
IsAskedOfTools (Some command) (Log name settings) =
    (command.0 ≡ codes "log") × (name.now ≡ text_of (found_of command.1) (codes "uplink"))
    × AreLogSettings (found_of command.1) settings × (is_backwards settings.filter ≡ false)
    × IsFlagOf (found_of command.1) (codes "html") false
IsAskedOfTools (Some command) (LogPage name settings) =
    (command.0 ≡ codes "log") × (name.now ≡ text_of (found_of command.1) (codes "uplink"))
    × ArePageSettings (found_of command.1) settings
IsAskedOfTools (Some command) (LogRefused refusal) = command.0 ≡ codes "log"
IsAskedOfTools (Some command) (Make places) =
    (command.0 ≡ codes "make") × AreMakePlaces (found_of command.1) places × (are_both_to_output places ≡ false)
IsAskedOfTools (Some command) SharedOutput =
    (command.0 ≡ codes "make")
    × ((places : MakePlaces) × AreMakePlaces (found_of command.1) places × (are_both_to_output places ≡ true))
IsAskedOfTools (Some command) (Damage damage seed places) =
    (command.0 ≡ codes "damage") × IsDamageOf (found_of command.1) damage
    × IsNumberOf 64 (found_of command.1) (codes "seed") seed × ArePairPlaces (found_of command.1) places
IsAskedOfTools (Some command) (Compare comparison) =
    (command.0 ≡ codes "compare") × IsComparisonOf (found_of command.1) comparison × (shares_input comparison ≡ false)
IsAskedOfTools (Some command) SharedInput =
    (command.0 ≡ codes "compare")
    × ((comparison : Comparison) × IsComparisonOf (found_of command.1) comparison × (shares_input comparison ≡ true))
IsAskedOfTools (Some command) (Import format places) =
    (command.0 ≡ codes "import") × IsImportedFrom command.1 format places
IsAskedOfTools (Some command) (Export format places) =
    (command.0 ≡ codes "export") × IsExportedTo command.1 format places
IsAskedOfTools (Some command) NoStart = (command.0 ≡ codes "export") × NamesCapture command.1
IsAskedOfTools (Some command) (Elsewhere name) =
    (command.0 ≡ codes "show" → ⊥) × (command.0 ≡ codes "log" → ⊥) × (command.0 ≡ codes "make" → ⊥)
    × (command.0 ≡ codes "damage" → ⊥) × (command.0 ≡ codes "compare" → ⊥)
    × (command.0 ≡ codes "import" → NamesImport command.1 → ⊥)
    × (command.0 ≡ codes "export" → NamesExport command.1 → ⊥)
    × (name.now ≡ command.0)

-- What is asked for is to be written to standard output, so that no line is printed there.
abbrev pub is_to_output : Request → Bool
is_to_output (Make places) = is_any_to_output places
is_to_output (Damage damage seed places) = is_standard places.output
is_to_output (Import format places) = is_standard places.output
is_to_output (Export format places) = is_standard places.output
is_to_output request = false
