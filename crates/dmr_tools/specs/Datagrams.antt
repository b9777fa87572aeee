-- What the options of captures of datagrams ask for.
use Rattle.std.specs.Prelude.{codes}
use Rattle.clap.specs.declared.parser.matches.Found.{Found}
use Rattle.dmr_datagrams.specs.declared.progress.ImportSettings.{ImportSettings}
use Rattle.dmr_datagrams.specs.declared.wanted.ExportSettings.{ExportSettings}
use Rattle.dmr_options.specs.Found.{IsFlagOf, IsGivenBy, IsNumberOf}

-- The settings of a list that is made of a capture are those of the options of their names.
pub record AreImportSettings (found : Found) (settings : ImportSettings) : Type 0 where
  pub slot : IsNumberOf 8 found (codes "slot") settings.slot
  pub confirmed : IsFlagOf found (codes "confirmed") settings.confirmed
  pub full : IsFlagOf found (codes "full-rate") settings.full
  pub first_frame : IsNumberOf 32 found (codes "first-frame") settings.first_frame

-- The slot that is written to a capture is the one that is given. What time the text of `start` is, is left open.
pub record AreExportSettings (found : Found) (settings : ExportSettings) : Type 0 where
  pub slot : IsGivenBy 8 found (codes "slot") settings.slot
