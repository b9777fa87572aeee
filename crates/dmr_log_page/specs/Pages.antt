-- The page of a whole uplink.
use Rattle.std.specs.Prelude.{◌≡◌, ℕ, List, [], Option}
use Rattle.std.specs.Option.{unwrap_or}
use Rattle.std.specs.Io.KnownBytes.{Consumes, IsAtEnd}
use Rattle.dmr_log.specs.RecordingLogs.{AreFramesTaken, IsRestTold, RecordedFrames}
use Rattle.dmr_log.specs.declared.log.LogState.{LogState}
use Rattle.dmr_log_forms.specs.Whole.{log_of}
use Rattle.dmr_log_page.specs.Minutes.{PageState, PutsMinute, PutsText, TakesTold}
use Rattle.dmr_log_page.specs.declared.settings.PageSettings.{PageSettings}
use Rattle.dmr_record.specs.Head.{head_octets, magic_of}
use Rattle.dmr_record.specs.declared.head.FileFormat.TheVariants.{Uplink}

-- a page of which no minute is put
abbrev pub begun_page : Option (List ℕ) → PageState
begun_page held = record { held = held; entries = [] }

-- An uplink was read behind its head, to its end. All that a log tells of its frames was taken, and what it tells at the end. Then
-- the last minute was put.
pub record AreMinutesPut (address : ℕ) (log_old log_new : LogState) (left_old left_new held_old held_new : Option (List ℕ))
    : Type 0 where
  pub frames : RecordedFrames
  pub read : LogState
  pub between : PageState
  pub all : PageState
  pub taken : AreFramesTaken (TakesTold address) log_old frames [] [] read left_old left_new (begun_page held_old) between
  pub rest : IsRestTold (TakesTold address) read log_new between all
  pub last : PutsMinute all.entries all.held held_new

-- A file was read whole, which is an uplink. Its page was put whole: a head, all minutes, and what was counted. Where there is no
-- gateway, nothing is received, and its address is 0.
pub record IsPagePut (settings : PageSettings) (left_old left_new held_old held_new : Option (List ℕ)) : Type 0 where
  pub left : Option (List ℕ)
  pub before : Option (List ℕ)
  pub behind : Option (List ℕ)
  pub last : LogState
  pub uplink : Consumes left_old left (head_octets (magic_of Uplink))
  pub head : PutsText held_old before
  pub minutes : AreMinutesPut (unwrap_or settings.address 0) (log_of settings.colour settings.address) last
      left left_new before behind
  pub end : PutsText behind held_new
  pub all : IsAtEnd left_new
