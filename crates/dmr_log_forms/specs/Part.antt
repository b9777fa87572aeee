-- A log that isn't printed whole: why, and what of it is printed.
use Rattle.std.specs.Prelude.{◌≡◌, ◌<◌, ◌⊎◌, ℕ, Bool, false, List, ◌++◌, Option, Some, Result, Ok, Err, codes}
use Rattle.std.specs.Option.{unwrap_or}
use Rattle.std.specs.Io.KnownBytes.{Appends, Consumes}
use Rattle.dmr_lines.specs.Line.{PutsError, error_octets}
use Rattle.dmr_log.specs.RecordingLogs.{IsLoggedUpToFault, IsRefusedIn, IsRefusedInRest, IsRestTold, RecordedFrames}
use Rattle.dmr_log.specs.declared.log.FrameTold.{FrameTold}
use Rattle.dmr_log.specs.declared.log.LogState.{LogState}
use Rattle.dmr_log.specs.declared.recording_log.LogSummary.{LogSummary}
use Rattle.dmr_log_forms.specs.Printed.{PutsEntries, shown_of}
use Rattle.dmr_log_forms.specs.Whole.{AreAllPut, IsLogPut, PutsHead, PutsTold, log_of}
use Rattle.dmr_log_forms.specs.declared.columns.EntryColumns.{EntryColumns}
use Rattle.dmr_log_forms.specs.declared.fault.LogFault.{LogFault}
use Rattle.dmr_log_forms.specs.declared.fault.LogFault.TheVariants as why
use Rattle.dmr_log_forms.specs.declared.settings.LogForm.{LogForm}
use Rattle.dmr_log_forms.specs.declared.settings.LogSettings.{LogSettings}
use Rattle.dmr_record.specs.Faults.{is_device_fault}
use Rattle.dmr_record.specs.Head.{head_octets, magic_of}
use Rattle.dmr_record.specs.declared.head.FileFormat.{FileFormat}
use Rattle.dmr_record.specs.declared.head.FileFormat.TheVariants.{Uplink}
use Rattle.dmr_recording.specs.declared.fault_line.FaultLine.{FaultLine}
use Rattle.dmr_show.specs.Showing.{IsHeadFault, IsUntouched}
use Rattle.dmr_show.specs.declared.filter.Filter.{Filter}

-- 1. Entries.

-- Of entries with these columns the first ones are put, one behind the other.
pub record PutsFirst (f : LogForm) (columns : List EntryColumns) (old new : Option (List ℕ)) : Type 0 where
  pub first : List EntryColumns
  pub left : List EntryColumns
  pub all : columns ≡ first ++ left
  pub put : PutsEntries f first old new

-- What is put of entries where not all are, by why. Where the sink has failed, nothing is said.
abbrev pub PutsUpTo : LogFault → LogForm → List EntryColumns → Option (List ℕ) → Option (List ℕ) → Type 0
PutsUpTo why.Memory f columns old new = PutsFirst f columns old new
PutsUpTo why.Output f columns old new = Unit {0}
PutsUpTo (why.File fault) f columns old new = ⊥
PutsUpTo why.NotUplink f columns old new = ⊥
PutsUpTo why.Range f columns old new = ⊥

-- What is put of entries, by how that ended.
abbrev pub PutsByEnd : {T : Type 0} → Result T LogFault → LogForm → List EntryColumns → Option (List ℕ) → Option (List ℕ) → Type 0
PutsByEnd (Ok x) f columns old new = PutsEntries f columns old new
PutsByEnd (Err e) f columns old new = PutsUpTo e f columns old new

-- What is told of a frame is put in part: the first of its entries that the filter lets pass.
abbrev pub PutsFirstOfTold : LogForm → Filter → ℕ → Option (List ℕ) → FrameTold → Option (List ℕ) → Type 0
PutsFirstOfTold form filter address old told new = PutsFirst form (shown_of filter address told) old new

-- 2. The entries of a recording.

-- An uplink was read behind its head, up to a slot that shows this fault. All that a log tells of the whole frames before that was
-- put, as at the end of a recording that has no more.
pub record ArePutUpToFault (form : LogForm) (filter : Filter) (address : ℕ) (fault : FaultLine) (log_old log_new : LogState)
    (left_old left_new held_old held_new : Option (List ℕ)) : Type 0 where
  pub read : LogState
  pub between : Option (List ℕ)
  pub taken : IsLoggedUpToFault (PutsTold form filter address) fault log_old read left_old left_new held_old between
  pub rest : IsRestTold (PutsTold form filter address) read log_new between held_new

-- Behind what a log tells of some frames, the first entries were put of what it tells next.
abbrev pub ArePutUntilRefused : LogForm → Filter → ℕ → LogState → (held_old held_new : Option (List ℕ)) → Type 0
ArePutUntilRefused form filter address log held_old held_new =
    ((frames : RecordedFrames)
    × IsRefusedIn (PutsTold form filter address) (PutsFirstOfTold form filter address) log frames held_old held_new)
    ⊎ IsRefusedInRest (PutsTold form filter address) (PutsFirstOfTold form filter address) log held_old held_new

-- What is put of what a log tells where not all is, by why.
abbrev pub ArePutUpTo : LogFault → LogForm → Filter → ℕ → (log_old log_new : LogState)
    → (left_old left_new held_old held_new : Option (List ℕ)) → Type 0
ArePutUpTo (why.File fault) form filter address log_old log_new left_old left_new held_old held_new =
    ArePutUpToFault form filter address fault log_old log_new left_old left_new held_old held_new
ArePutUpTo why.Memory form filter address log_old log_new left_old left_new held_old held_new =
    ArePutUntilRefused form filter address log_old held_old held_new
ArePutUpTo why.Output form filter address log_old log_new left_old left_new held_old held_new = Unit {0}
ArePutUpTo why.NotUplink form filter address log_old log_new left_old left_new held_old held_new = ⊥
ArePutUpTo why.Range form filter address log_old log_new left_old left_new held_old held_new = ⊥

-- What is put of what a log tells, by how that ended.
abbrev pub ArePut : Result LogSummary LogFault → LogForm → Filter → ℕ → (log_old log_new : LogState)
    → (left_old left_new held_old held_new : Option (List ℕ)) → Type 0
ArePut (Ok summary) form filter address log_old log_new left_old left_new held_old held_new =
    AreAllPut form filter address log_old log_new left_old left_new held_old held_new
ArePut (Err e) form filter address log_old log_new left_old left_new held_old held_new =
    ArePutUpTo e form filter address log_old log_new left_old left_new held_old held_new

-- 3. Settings and heads that are refused.

-- A colour code has over four bits, or an address is 0 or has over 24 bits.
abbrev pub IsOutOfRange : ℕ → Option ℕ → Type 0
IsOutOfRange colour address =
    (15 < colour) ⊎ ((llid : ℕ) × (address ≡ Some llid) × ((llid ≡ 0) ⊎ (16777215 < llid)))

-- A log isn't begun, by why: its settings are out of range, or there is no memory.
abbrev pub IsLogNotBegun : LogFault → ℕ → Option ℕ → Type 0
IsLogNotBegun why.Range colour address = IsOutOfRange colour address
IsLogNotBegun why.Memory colour address = Unit {0}
IsLogNotBegun (why.File fault) colour address = ⊥
IsLogNotBegun why.NotUplink colour address = ⊥
IsLogNotBegun why.Output colour address = ⊥

-- The head of one of the other three files was read.
pub record IsOtherHead (left_old left_new : Option (List ℕ)) : Type 0 where
  pub format : FileFormat
  pub other : format ≡ Uplink → ⊥
  pub head : Consumes left_old left_new (head_octets (magic_of format))

-- A head isn't that of an uplink, by why: it shows a fault, or is another's.
abbrev pub IsNoUplinkHead : LogFault → Option (List ℕ) → Option (List ℕ) → Type 0
IsNoUplinkHead (why.File fault) left_old left_new = IsHeadFault fault left_old left_new
IsNoUplinkHead why.NotUplink left_old left_new = IsOtherHead left_old left_new
IsNoUplinkHead why.Range left_old left_new = ⊥
IsNoUplinkHead why.Memory left_old left_new = ⊥
IsNoUplinkHead why.Output left_old left_new = ⊥

-- The names of the columns of a table aren't put, by why: there is no memory, or the sink has failed.
abbrev pub IsHeadNotPut : LogFault → (held_old held_new : Option (List ℕ)) → Type 0
IsHeadNotPut why.Memory held_old held_new = held_new ≡ held_old
IsHeadNotPut why.Output held_old held_new = Unit {0}
IsHeadNotPut (why.File fault) held_old held_new = ⊥
IsHeadNotPut why.NotUplink held_old held_new = ⊥
IsHeadNotPut why.Range held_old held_new = ⊥

-- 4. The whole.

-- The head of an uplink was read, and nothing put.
pub record IsHeadAlone (left_old left_new held_old held_new : Option (List ℕ)) : Type 0 where
  pub uplink : Consumes left_old left_new (head_octets (magic_of Uplink))
  pub put : held_new ≡ held_old

-- The head of an uplink was read, and that of its log was put. Behind these, its log is put as far as this says of the log that is
-- new, by what is left to read and what the sink holds.
pub record IsPutBehindHead (settings : LogSettings)
    (Puts : LogState → (left_old left_new held_old held_new : Option (List ℕ)) → Type 0)
    (left_old left_new held_old held_new : Option (List ℕ)) : Type 0 where
  pub left : Option (List ℕ)
  pub before : Option (List ℕ)
  pub uplink : Consumes left_old left (head_octets (magic_of Uplink))
  pub head : PutsHead settings.form held_old before
  pub entries : Puts (log_of settings.colour settings.address) left left_new before held_new

-- A slot of an uplink shows this fault. The log of the whole frames before it was put, but for its last line.
abbrev pub IsLogPutUpToFault : LogSettings → FaultLine → (left_old left_new held_old held_new : Option (List ℕ)) → Type 0
IsLogPutUpToFault settings fault =
    IsPutBehindHead settings (λ log left_old left_new held_old held_new. (last : LogState)
    × ArePutUpToFault settings.form settings.filter (unwrap_or settings.address 0) fault log last
    left_old left_new held_old held_new)

-- Memory was refused while entries were put: those before that were, in order.
abbrev pub IsLogPutUntilRefused : LogSettings → (left_old left_new held_old held_new : Option (List ℕ)) → Type 0
IsLogPutUntilRefused settings =
    IsPutBehindHead settings (λ log left_old left_new held_old held_new.
    ArePutUntilRefused settings.form settings.filter (unwrap_or settings.address 0) log held_old held_new)

-- What was read of a file, and what of its log was put, where that isn't whole, by why. Where the sink has failed, nothing is said.
abbrev pub IsLogPutUpTo : LogFault → LogSettings → (left_old left_new held_old held_new : Option (List ℕ)) → Type 0
IsLogPutUpTo (why.File fault) settings left_old left_new held_old held_new =
    (IsHeadFault fault left_old left_new × (held_new ≡ held_old))
    ⊎ IsLogPutUpToFault settings fault left_old left_new held_old held_new
IsLogPutUpTo why.NotUplink settings left_old left_new held_old held_new =
    IsOtherHead left_old left_new × (held_new ≡ held_old)
IsLogPutUpTo why.Range settings left_old left_new held_old held_new =
    IsOutOfRange settings.colour settings.address × IsUntouched left_old left_new held_old held_new
IsLogPutUpTo why.Memory settings left_old left_new held_old held_new =
    IsUntouched left_old left_new held_old held_new ⊎ (IsHeadAlone left_old left_new held_old held_new
    ⊎ IsLogPutUntilRefused settings left_old left_new held_old held_new)
IsLogPutUpTo why.Output settings left_old left_new held_old held_new = Unit {0}

-- What was read of a file, and what of its log was put, by how that ended.
abbrev pub IsLogPutByEnd : {T : Type 0} → Result T LogFault → LogSettings
    → (left_old left_new held_old held_new : Option (List ℕ)) → Type 0
IsLogPutByEnd (Ok x) settings left_old left_new held_old held_new = IsLogPut settings left_old left_new held_old held_new
IsLogPutByEnd (Err e) settings left_old left_new held_old held_new =
    IsLogPutUpTo e settings left_old left_new held_old held_new

-- Whether the source has failed, by why a log isn't printed whole. Where that isn't the file's fault, nothing is said.
abbrev pub HasReadFailed : LogFault → Bool → Type 0
HasReadFailed (why.File fault) failed = failed ≡ is_device_fault fault.fault
HasReadFailed why.NotUplink failed = failed ≡ false
HasReadFailed why.Range failed = failed ≡ false
HasReadFailed why.Memory failed = Unit {0}
HasReadFailed why.Output failed = Unit {0}

-- What is put to another sink where a log isn't printed whole: a line of error, which for want of memory is this.
abbrev pub TellsLogFault : LogFault → (held_old held_new : Option (List ℕ)) → Type 0
TellsLogFault why.Memory held_old held_new = Appends held_old held_new (error_octets (codes "out of memory"))
TellsLogFault (why.File fault) held_old held_new = PutsError held_old held_new
TellsLogFault why.NotUplink held_old held_new = PutsError held_old held_new
TellsLogFault why.Range held_old held_new = PutsError held_old held_new
TellsLogFault why.Output held_old held_new = Unit {0}
