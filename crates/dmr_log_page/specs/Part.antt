-- A page that isn't printed whole: why, and what of it is printed.
use Rattle.std.specs.Prelude.{◌≡◌, ℕ, ◌⊎◌, List, Option, Result, Ok, Err}
use Rattle.std.specs.Option.{unwrap_or}
use Rattle.std.specs.Io.KnownBytes.{Consumes}
use Rattle.dmr_log.specs.RecordingLogs.{IsLoggedUpToFault, IsRestTold}
use Rattle.dmr_log.specs.declared.log.LogState.{LogState}
use Rattle.dmr_log.specs.declared.recording_log.LogSummary.{LogSummary}
use Rattle.dmr_log_forms.specs.Part.{IsOtherHead, IsOutOfRange}
use Rattle.dmr_log_forms.specs.Whole.{log_of}
use Rattle.dmr_log_forms.specs.declared.fault.LogFault.{LogFault}
use Rattle.dmr_log_forms.specs.declared.fault.LogFault.TheVariants as why
use Rattle.dmr_log_page.specs.Minutes.{PageState, PutsMinute, PutsText, TakesTold}
use Rattle.dmr_log_page.specs.Pages.{AreMinutesPut, IsPagePut, begun_page}
use Rattle.dmr_log_page.specs.declared.settings.PageSettings.{PageSettings}
use Rattle.dmr_record.specs.Head.{head_octets, magic_of}
use Rattle.dmr_record.specs.declared.head.FileFormat.TheVariants.{Uplink}
use Rattle.dmr_recording.specs.declared.fault_line.FaultLine.{FaultLine}
use Rattle.dmr_show.specs.Showing.{IsHeadFault, IsUntouched}

-- 1. What stops the printing.

-- A text isn't printed for this: there is no memory, or the sink has failed.
abbrev pub IsPrintFault : LogFault → Type 0
IsPrintFault why.Memory = Unit {0}
IsPrintFault why.Output = Unit {0}
IsPrintFault (why.File fault) = ⊥
IsPrintFault why.NotUplink = ⊥
IsPrintFault why.Range = ⊥

-- 2. Minutes.

-- An uplink was read behind its head, up to a slot that shows this fault. All that a log tells of the whole frames before that was
-- taken, as at the end of a recording that has no more. Then the last minute was put.
pub record AreMinutesPutUpToFault (address : ℕ) (fault : FaultLine) (log_old log_new : LogState)
    (left_old left_new held_old held_new : Option (List ℕ)) : Type 0 where
  pub read : LogState
  pub between : PageState
  pub all : PageState
  pub taken : IsLoggedUpToFault (TakesTold address) fault log_old read left_old left_new (begun_page held_old) between
  pub rest : IsRestTold (TakesTold address) read log_new between all
  pub last : PutsMinute all.entries all.held held_new

-- Which minutes are put where not all are, by why. Where there is no memory or the sink has failed, nothing is said.
abbrev pub AreMinutesPutUpTo : LogFault → ℕ → (log_old log_new : LogState)
    → (left_old left_new held_old held_new : Option (List ℕ)) → Type 0
AreMinutesPutUpTo (why.File fault) address log_old log_new left_old left_new held_old held_new =
    AreMinutesPutUpToFault address fault log_old log_new left_old left_new held_old held_new
AreMinutesPutUpTo why.Memory address log_old log_new left_old left_new held_old held_new = Unit {0}
AreMinutesPutUpTo why.Output address log_old log_new left_old left_new held_old held_new = Unit {0}
AreMinutesPutUpTo why.NotUplink address log_old log_new left_old left_new held_old held_new = ⊥
AreMinutesPutUpTo why.Range address log_old log_new left_old left_new held_old held_new = ⊥

-- Which minutes are put, by how that ended.
abbrev pub AreMinutesPutByEnd : Result LogSummary LogFault → ℕ → (log_old log_new : LogState)
    → (left_old left_new held_old held_new : Option (List ℕ)) → Type 0
AreMinutesPutByEnd (Ok summary) address log_old log_new left_old left_new held_old held_new =
    AreMinutesPut address log_old log_new left_old left_new held_old held_new
AreMinutesPutByEnd (Err e) address log_old log_new left_old left_new held_old held_new =
    AreMinutesPutUpTo e address log_old log_new left_old left_new held_old held_new

-- 3. The whole.

-- The head of an uplink was read, and a slot behind it shows this fault. The page of the whole frames before it was put, but for
-- what was counted.
pub record IsPagePutUpToFault (settings : PageSettings) (fault : FaultLine) (left_old left_new held_old held_new : Option (List ℕ))
    : Type 0 where
  pub left : Option (List ℕ)
  pub before : Option (List ℕ)
  pub last : LogState
  pub uplink : Consumes left_old left (head_octets (magic_of Uplink))
  pub head : PutsText held_old before
  pub minutes : AreMinutesPutUpToFault (unwrap_or settings.address 0) fault (log_of settings.colour settings.address) last
      left left_new before held_new

-- What was read of a file, and what of its page was put, where that isn't whole, by why. Where there is no memory or the sink has
-- failed, nothing is said.
abbrev pub IsPagePutUpTo : LogFault → PageSettings → (left_old left_new held_old held_new : Option (List ℕ)) → Type 0
IsPagePutUpTo (why.File fault) settings left_old left_new held_old held_new =
    (IsHeadFault fault left_old left_new × (held_new ≡ held_old))
    ⊎ IsPagePutUpToFault settings fault left_old left_new held_old held_new
IsPagePutUpTo why.NotUplink settings left_old left_new held_old held_new =
    IsOtherHead left_old left_new × (held_new ≡ held_old)
IsPagePutUpTo why.Range settings left_old left_new held_old held_new =
    IsOutOfRange settings.colour settings.address × IsUntouched left_old left_new held_old held_new
IsPagePutUpTo why.Memory settings left_old left_new held_old held_new = Unit {0}
IsPagePutUpTo why.Output settings left_old left_new held_old held_new = Unit {0}

-- What was read of a file, and what of its page was put, by how that ended.
abbrev pub IsPagePutByEnd : {T : Type 0} → Result T LogFault → PageSettings
    → (left_old left_new held_old held_new : Option (List ℕ)) → Type 0
IsPagePutByEnd (Ok x) settings left_old left_new held_old held_new = IsPagePut settings left_old left_new held_old held_new
IsPagePutByEnd (Err e) settings left_old left_new held_old held_new =
    IsPagePutUpTo e settings left_old left_new held_old held_new
