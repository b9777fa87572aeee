-- The log of a whole uplink, as it is printed.
use Rattle.std.specs.Prelude.{◌≡◌, ℕ, List, [], Option, Some, None}
use Rattle.std.specs.Option.{unwrap_or}
use Rattle.std.specs.Io.KnownBytes.{Appends, Consumes, IsAtEnd}
use Rattle.csv.specs.Writing.{default_writer, row_text}
use Rattle.dmr_gateway.specs.GatewayRules.{Gate, new_gate}
use Rattle.dmr_lines.specs.Line.{PutsLine}
use Rattle.dmr_log.specs.LogRules.{new_log}
use Rattle.dmr_log.specs.RecordingLogs.{AreFramesTaken, IsRestTold, RecordedFrames}
use Rattle.dmr_log.specs.declared.log.FrameTold.{FrameTold}
use Rattle.dmr_log.specs.declared.log.LogState.{LogState}
use Rattle.dmr_log_forms.specs.Printed.{PutsEntries, shown_of}
use Rattle.dmr_log_forms.specs.Rows.{names}
use Rattle.dmr_log_forms.specs.declared.settings.LogForm.{LogForm}
use Rattle.dmr_log_forms.specs.declared.settings.LogForm.TheVariants as form
use Rattle.dmr_log_forms.specs.declared.settings.LogSettings.{LogSettings}
use Rattle.dmr_record.specs.Head.{head_octets, magic_of}
use Rattle.dmr_record.specs.declared.head.FileFormat.TheVariants.{Uplink}
use Rattle.dmr_show.specs.declared.filter.Filter.{Filter}

-- 1. Around the entries.

-- A log begins with nothing, but for a table, which names its columns.
abbrev pub PutsHead : LogForm → Option (List ℕ) → Option (List ℕ) → Type 0
PutsHead form.Table old new = Appends old new (row_text default_writer names)
PutsHead form.Lines old new = new ≡ old
PutsHead form.Json old new = new ≡ old

-- It ends with a line, but for a table, which ends with nothing.
abbrev pub PutsEnd : LogForm → Option (List ℕ) → Option (List ℕ) → Type 0
PutsEnd form.Table old new = new ≡ old
PutsEnd form.Lines old new = PutsLine old new
PutsEnd form.Json old new = PutsLine old new

-- 2. The entries.

-- What is told of a frame is put: its entries that the filter lets pass.
abbrev pub PutsTold : LogForm → Filter → ℕ → Option (List ℕ) → FrameTold → Option (List ℕ) → Type 0
PutsTold form filter address old told new = PutsEntries form (shown_of filter address told) old new

-- An uplink was read behind its head, to its end. All that a log tells of its frames was put, and what it tells at the end.
pub record AreAllPut (form : LogForm) (filter : Filter) (address : ℕ) (log_old log_new : LogState)
    (left_old left_new held_old held_new : Option (List ℕ)) : Type 0 where
  pub frames : RecordedFrames
  pub read : LogState
  pub between : Option (List ℕ)
  pub taken : AreFramesTaken (PutsTold form filter address) log_old frames [] [] read left_old left_new held_old between
  pub rest : IsRestTold (PutsTold form filter address) read log_new between held_new

-- 3. The whole.

-- the gateway of a repeater that listens at this address, if one does. It sends nothing.
abbrev pub listening : ℕ → Option ℕ → Option Gate
listening colour None = None
listening colour (Some llid) = Some (new_gate colour llid 1)

-- the log of a repeater with this colour code and with a gateway at this address, if there is one, of which no frame came
abbrev pub log_of : ℕ → Option ℕ → LogState
log_of colour address = new_log colour (listening colour address)

-- A file was read whole, which is an uplink. Its log was put whole, from the head to the end. Where there is no gateway, nothing is
-- received, and its address is 0.
pub record IsLogPut (settings : LogSettings) (left_old left_new held_old held_new : Option (List ℕ)) : Type 0 where
  pub left : Option (List ℕ)
  pub before : Option (List ℕ)
  pub behind : Option (List ℕ)
  pub last : LogState
  pub uplink : Consumes left_old left (head_octets (magic_of Uplink))
  pub head : PutsHead settings.form held_old before
  pub entries : AreAllPut settings.form settings.filter (unwrap_or settings.address 0) (log_of settings.colour settings.address)
      last left left_new before behind
  pub end : PutsEnd settings.form behind held_new
  pub all : IsAtEnd left_new
