-- What a command line of `log` asks for.
use Rattle.std.specs.Prelude.{◌≡◌, Bool, true, false, codes}
use Rattle.clap.specs.declared.parser.matches.Found.{Found}
use Rattle.dmr_log_forms.specs.declared.settings.LogForm.{LogForm}
use Rattle.dmr_log_forms.specs.declared.settings.LogForm.TheVariants.{Lines, Table, Json}
use Rattle.dmr_log_forms.specs.declared.settings.LogSettings.{LogSettings}
use Rattle.dmr_log_page.specs.declared.settings.PageSettings.{PageSettings}
use Rattle.dmr_options.specs.Found.{IsFlagOf, IsGivenBy, IsNumberOf}
use Rattle.dmr_tools.specs.Filters.{IsFilterOf}

-- a table where it is asked for, JSON where that alone is, and else lines
abbrev pub log_form_by : Bool → Bool → LogForm
log_form_by true json = Table
log_form_by false true = Json
log_form_by false false = Lines

-- The form is that of the options `csv` and `json`.
pub record IsLogFormOf (found : Found) (form : LogForm) : Type 0 where
  pub csv : Bool
  pub csv_flag : IsFlagOf found (codes "csv") csv
  pub json : Bool
  pub json_flag : IsFlagOf found (codes "json") json
  pub value : form ≡ log_form_by csv json

-- The settings of a page are those of the options of their names, and it is asked for. How the text of `start` is read is left
-- open.
pub record ArePageSettings (found : Found) (settings : PageSettings) : Type 0 where
  pub html : IsFlagOf found (codes "html") true
  pub colour : IsNumberOf 8 found (codes "colour") settings.colour
  pub address : IsGivenBy 32 found (codes "llid") settings.address

-- The settings are those of the options of their names. How the text of `start` is read is left open.
pub record AreLogSettings (found : Found) (settings : LogSettings) : Type 0 where
  pub form : IsLogFormOf found settings.form
  pub colour : IsNumberOf 8 found (codes "colour") settings.colour
  pub address : IsGivenBy 32 found (codes "llid") settings.address
  pub filter : IsFilterOf found settings.filter
