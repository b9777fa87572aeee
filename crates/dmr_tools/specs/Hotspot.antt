-- What the options of captures of hotspots ask for.
use Rattle.std.specs.Prelude.{◌≡◌, ℕ, Option, Some, None, codes}
use Rattle.clap.specs.declared.parser.matches.Found.{Found}
use Rattle.dmr_dmrd.specs.declared.hold.ImportSettings.{ImportSettings}
use Rattle.dmr_dmrd.specs.declared.taking.Ports.{Ports}
use Rattle.dmr_dmrd.specs.declared.taking.Ports.TheVariants.{To, From}
use Rattle.dmr_dmrd_export.specs.declared.settings.ExportSettings.{ExportSettings}
use Rattle.dmr_options.specs.Found.{IsFlagOf, IsGivenBy, IsNumberOf}

-- from a port where one is given, and else to the other
abbrev pub ports_by : Option ℕ → ℕ → Ports
ports_by None to = To to
ports_by (Some from) to = From from

-- The ports are those of the options `port` and `from-port`.
pub record ArePortsOf (found : Found) (ports : Ports) : Type 0 where
  pub to : ℕ
  pub to_number : IsNumberOf 16 found (codes "port") to
  pub from : Option ℕ
  pub from_number : IsGivenBy 16 found (codes "from-port") from
  pub value : ports ≡ ports_by from to

-- The settings of a recording that is made of a capture are those of the options of their names.
pub record AreHotspotSettings (found : Found) (settings : ImportSettings) : Type 0 where
  pub ports : ArePortsOf found settings.ports
  pub repeater : IsGivenBy 32 found (codes "repeater") settings.repeater
  pub as_uplink : IsFlagOf found (codes "as-uplink") settings.as_uplink

-- The repeater of the packets of a downlink is that of the option of its name. What time the text of `start` is, is left open.
pub record AreBurstSettings (found : Found) (settings : ExportSettings) : Type 0 where
  pub repeater : IsNumberOf 32 found (codes "repeater") settings.repeater
