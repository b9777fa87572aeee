-- How the printing of a log ends.
use Rattle.std.proofs.Common.{◌≡◌, ℕ, Bool, List, Option, inr, sym, subst}
use Rattle.std.specs.Option.{unwrap_or}
use Rattle.std.specs.Prelude.{Result, Ok, Err, IfErr, OnOk}
use Rattle.std.specs.Io.KnownBytes.{Consumes}
use Rattle.dmr_log.specs.declared.log.LogState.{LogState}
use Rattle.dmr_log_forms.specs.Part.{ArePutUpTo, HasReadFailed, IsLogPutByEnd, IsLogPutUpTo}
use Rattle.dmr_log_forms.specs.Whole.{IsLogPut, PutsHead, log_of}
use Rattle.dmr_log_forms.specs.declared.fault.LogFault.{LogFault}
use Rattle.dmr_log_forms.specs.declared.fault.LogFault.TheVariants as why
use Rattle.dmr_log_forms.specs.declared.settings.LogSettings.{LogSettings}
use Rattle.dmr_record.specs.Head.{head_octets, magic_of}
use Rattle.dmr_record.specs.declared.head.FileFormat.TheVariants.{Uplink}

-- Where entries are put in part behind a head, so is the log.
pub part_put : (e : LogFault) (settings : LogSettings) (last : LogState)
    (left_old left left_new held_old before held_new : Option (List ℕ))
    → Consumes left_old left (head_octets (magic_of Uplink)) → PutsHead settings.form held_old before
    → ArePutUpTo e settings.form settings.filter (unwrap_or settings.address 0) (log_of settings.colour settings.address) last
    left left_new before held_new
    → IsLogPutUpTo e settings left_old left_new held_old held_new
part_put (why.File fault) settings last left_old left left_new held_old before held_new uplink head put =
    inr (record { left = _; before = _; uplink = uplink; head = head; entries = (_, put) })
part_put why.Memory settings last left_old left left_new held_old before held_new uplink head put =
    inr (inr (record { left = _; before = _; uplink = uplink; head = head; entries = put }))
part_put why.Output settings last left_old left left_new held_old before held_new uplink head put = tt
part_put why.NotUplink settings last left_old left left_new held_old before held_new uplink head put = absurd put
part_put why.Range settings last left_old left left_new held_old before held_new uplink head put = absurd put

-- the same, where the address and the begin of the log are told otherwise, of a call that has failed so
pub part_put_by : {T : Type 0} (r : Result T LogFault) (e : LogFault) (settings : LogSettings) (address : ℕ) (log : LogState)
    (last : LogState) (left_old left left_new held_old before held_new : Option (List ℕ))
    → r ≡ Err e → address ≡ unwrap_or settings.address 0 → log ≡ log_of settings.colour settings.address
    → Consumes left_old left (head_octets (magic_of Uplink)) → PutsHead settings.form held_old before
    → ArePutUpTo e settings.form settings.filter address log last left left_new before held_new
    → IsLogPutByEnd r settings left_old left_new held_old held_new
part_put_by r e settings address log last left_old left left_new held_old before held_new
    failed same_address same_log uplink head put =
    subst (λ s. IsLogPutByEnd s settings left_old left_new held_old held_new) (sym failed)
    (part_put e settings last left_old left left_new held_old before held_new uplink head
    (subst (λ (s : LogState). ArePutUpTo e settings.form settings.filter (unwrap_or settings.address 0) s last
    left left_new before held_new) same_log
    (subst (λ (n : ℕ). ArePutUpTo e settings.form settings.filter n log last left left_new before held_new) same_address put)))

-- A log is put whole, or the sink has failed.
pub put_by_end : {T : Type 0} (r : Result T LogFault) (settings : LogSettings)
    (left_old left_new held_old held_new : Option (List ℕ))
    → OnOk r (IsLogPut settings left_old left_new held_old held_new) → IfErr r (λ e. e ≡ why.Output)
    → IsLogPutByEnd r settings left_old left_new held_old held_new
put_by_end (Ok x) settings left_old left_new held_old held_new put output = put
put_by_end (Err e) settings left_old left_new held_old held_new put output =
    subst (λ f. IsLogPutUpTo f settings left_old left_new held_old held_new) (sym output) tt

-- what holds anyhow holds at an Ok
pub at_ok : {T E X : Type 0} (r : Result T E) → X → OnOk r X
at_ok (Ok x) holds = holds
at_ok (Err e) holds = tt

-- Where only the sink can have failed, nothing is said of the source.
pub read_by_end : {T : Type 0} (r : Result T LogFault) (failed : Bool) → IfErr r (λ e. e ≡ why.Output)
    → IfErr r (λ e. HasReadFailed e failed)
read_by_end (Ok x) failed output = tt
read_by_end (Err e) failed output = subst (λ f. HasReadFailed f failed) (sym output) tt
