-- What the words of a command line ask for.
use Rattle.std.specs.Prelude.{◌≡◌, ℕ, true, false, [], Option, Some, None, Result, IfOk, IfErr, OnOk, codes}
use Rattle.clap.specs.Words.{Text, first_value}
use Rattle.clap.specs.declared.parser.matches.Found.{Found}
use Rattle.dmr_files.specs.Place.{IsNamed}
use Rattle.dmr_files.specs.declared.place.Place.{Place}
use Rattle.dmr_settings.specs.Config.{setting_fault}
use Rattle.dmr_settings.specs.declared.config.Config.{Config}
use Rattle.dmr_settings.specs.declared.config.ConfigFault.{ConfigFault}
use Rattle.dmr_options.specs.Found.{IsFlagOf, IsNumberOf, text_of}
use Rattle.dmr_command.specs.declared.places.Places.{Places}
use Rattle.dmr_command.specs.declared.request.Request.{Request}
use Rattle.dmr_command.specs.declared.request.Request.TheVariants.{Slot, Run, Shared, Elsewhere}
use Rattle.dmr_command.specs.declared.request.SharedStream.TheVariants.{Input, Output}
use Rattle.dmr_command.specs.Places.{share_input, share_output}

-- the place that an option names
abbrev pub IsPlaceOf : Found → Text → Place → Type 0
IsPlaceOf found option place = IsNamed (text_of found option) place

-- the place that an option names, where it is given
abbrev pub IsPlaceIfGiven : Found → Text → Option Place → Type 0
IsPlaceIfGiven found option None = first_value found option ≡ None
IsPlaceIfGiven found option (Some place) = (name : Text) × (first_value found option ≡ Some name) × IsNamed name place

-- Each file's place is that of the option of its name.
pub record ArePlacesOf (found : Found) (places : Places) : Type 0 where
  pub uplink : IsPlaceOf found (codes "uplink") places.uplink
  pub outgoing : IsPlaceIfGiven found (codes "outgoing") places.outgoing
  pub downlink : IsPlaceOf found (codes "downlink") places.downlink
  pub received : IsPlaceIfGiven found (codes "received") places.received

-- Each setting is that of the option of its name, and the first that is refused is told.
pub record AreSettingsOf (found : Found) (config : Result Config ConfigFault) : Type 0 where
  pub colour : ℕ
  pub colour_number : IsNumberOf 8 found (codes "colour") colour
  pub llid : ℕ
  pub llid_number : IsNumberOf 32 found (codes "llid") llid
  pub call_hang : ℕ
  pub call_hang_number : IsNumberOf 16 found (codes "call-hang") call_hang
  pub channel_hang : ℕ
  pub channel_hang_number : IsNumberOf 16 found (codes "channel-hang") channel_hang
  pub queue : ℕ
  pub queue_number : IsNumberOf 8 found (codes "queue") queue
  pub set_colour : IfOk config (λ c. c.colour ≡ colour)
  pub set_llid : IfOk config (λ c. c.llid ≡ llid)
  pub set_call_hang : IfOk config (λ c. c.call_hang ≡ call_hang)
  pub set_channel_hang : IfOk config (λ c. c.channel_hang ≡ channel_hang)
  pub set_queue : IfOk config (λ c. c.queue ≡ queue)
  pub valid : OnOk config (setting_fault colour llid call_hang channel_hang queue ≡ None)
  pub fault : IfErr config (λ e. setting_fault colour llid call_hang channel_hang queue ≡ Some e)

-- What a command with these options asks for: `run` for a run, which is refused where both inputs or both outputs would be one
-- standard stream, and tells more where `verbose` is given; `slot` for what its burst is; and any other what isn't done here.
abbrev pub IsAskedBy : Option (Text × Found) → Request → Type 0
IsAskedBy None (Slot burst) = burst.now ≡ []
IsAskedBy None (Run config places is_verbose) = ⊥
IsAskedBy None (Shared stream) = ⊥
IsAskedBy None (Elsewhere name) = ⊥
IsAskedBy (Some command) (Slot burst) = (command.0 ≡ codes "slot") × (burst.now ≡ text_of command.1 (codes "burst"))
IsAskedBy (Some command) (Run config places is_verbose) =
    (command.0 ≡ codes "run") × AreSettingsOf command.1 config × ArePlacesOf command.1 places
    × IsFlagOf command.1 (codes "verbose") is_verbose × (share_input places ≡ false) × (share_output places ≡ false)
IsAskedBy (Some command) (Shared Input) =
    (command.0 ≡ codes "run") × ((places : Places) × ArePlacesOf command.1 places × (share_input places ≡ true))
IsAskedBy (Some command) (Shared Output) =
    (command.0 ≡ codes "run")
    × ((places : Places) × ArePlacesOf command.1 places × (share_input places ≡ false) × (share_output places ≡ true))
IsAskedBy (Some command) (Elsewhere name) =
    (command.0 ≡ codes "run" → ⊥) × (command.0 ≡ codes "slot" → ⊥) × (name.now ≡ command.0)
