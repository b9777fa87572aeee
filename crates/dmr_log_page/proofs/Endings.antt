-- How the printing of a page ends.
use Rattle.std.proofs.Common.{◌≡◌, ℕ, Bool, List, Option, inr, subst, sym}
use Rattle.std.specs.Option.{unwrap_or}
use Rattle.std.specs.Prelude.{Result, Ok, Err, OnOk, IfErr}
use Rattle.std.specs.Io.KnownBytes.{Consumes, IsAtEnd}
use Rattle.dmr_log.specs.declared.log.LogState.{LogState}
use Rattle.dmr_log_forms.specs.Part.{HasReadFailed}
use Rattle.dmr_log_forms.specs.Whole.{log_of}
use Rattle.dmr_log_forms.specs.declared.fault.LogFault.{LogFault}
use Rattle.dmr_log_forms.specs.declared.fault.LogFault.TheVariants as why
use Rattle.dmr_log_page.specs.Minutes.{PutsText}
use Rattle.dmr_log_page.specs.Pages.{AreMinutesPut, IsPagePut}
use Rattle.dmr_log_page.specs.Part.{AreMinutesPutUpTo, IsPagePutByEnd, IsPagePutUpTo, IsPrintFault}
use Rattle.dmr_log_page.specs.declared.settings.PageSettings.{PageSettings}
use Rattle.dmr_record.specs.Head.{head_octets, magic_of}
use Rattle.dmr_record.specs.declared.head.FileFormat.TheVariants.{Uplink}

-- Where a text can't be printed, nothing is said of the minutes.
pub minutes_unsaid : (e : LogFault) (address : ℕ) (log_old log_new : LogState)
    (left_old left_new held_old held_new : Option (List ℕ)) → IsPrintFault e
    → AreMinutesPutUpTo e address log_old log_new left_old left_new held_old held_new
minutes_unsaid why.Memory address log_old log_new left_old left_new held_old held_new fault = tt
minutes_unsaid why.Output address log_old log_new left_old left_new held_old held_new fault = tt
minutes_unsaid (why.File f) address log_old log_new left_old left_new held_old held_new fault = absurd fault
minutes_unsaid why.NotUplink address log_old log_new left_old left_new held_old held_new fault = absurd fault
minutes_unsaid why.Range address log_old log_new left_old left_new held_old held_new fault = absurd fault

-- the same of the page
pub page_unsaid : (e : LogFault) (settings : PageSettings) (left_old left_new held_old held_new : Option (List ℕ))
    → IsPrintFault e → IsPagePutUpTo e settings left_old left_new held_old held_new
page_unsaid why.Memory settings left_old left_new held_old held_new fault = tt
page_unsaid why.Output settings left_old left_new held_old held_new fault = tt
page_unsaid (why.File f) settings left_old left_new held_old held_new fault = absurd fault
page_unsaid why.NotUplink settings left_old left_new held_old held_new fault = absurd fault
page_unsaid why.Range settings left_old left_new held_old held_new fault = absurd fault

-- the same of the source
pub read_unsaid : (e : LogFault) (failed : Bool) → IsPrintFault e → HasReadFailed e failed
read_unsaid why.Memory failed fault = tt
read_unsaid why.Output failed fault = tt
read_unsaid (why.File f) failed fault = absurd fault
read_unsaid why.NotUplink failed fault = absurd fault
read_unsaid why.Range failed fault = absurd fault

-- the same of the source, of a call that may have failed so
pub read_by_end : {T : Type 0} (r : Result T LogFault) (failed : Bool) → IfErr r IsPrintFault
    → IfErr r (λ e. HasReadFailed e failed)
read_by_end (Ok x) failed fault = tt
read_by_end (Err e) failed fault = read_unsaid e failed fault

-- Where minutes are put in part behind a head, so is the page.
pub page_in_part : (e : LogFault) (settings : PageSettings) (last : LogState)
    (left_old left left_new held_old before held_new : Option (List ℕ))
    → Consumes left_old left (head_octets (magic_of Uplink)) → PutsText held_old before
    → AreMinutesPutUpTo e (unwrap_or settings.address 0) (log_of settings.colour settings.address) last
    left left_new before held_new
    → IsPagePutUpTo e settings left_old left_new held_old held_new
page_in_part (why.File fault) settings last left_old left left_new held_old before held_new uplink head put =
    inr (record { left = left; before = before; last = last; uplink = uplink; head = head; minutes = put })
page_in_part why.Memory settings last left_old left left_new held_old before held_new uplink head put = tt
page_in_part why.Output settings last left_old left left_new held_old before held_new uplink head put = tt
page_in_part why.NotUplink settings last left_old left left_new held_old before held_new uplink head put = absurd put
page_in_part why.Range settings last left_old left left_new held_old before held_new uplink head put = absurd put

-- the same, where the address and the begin of the log are told otherwise, of a call that has failed so
pub page_in_part_by : {T : Type 0} (r : Result T LogFault) (e : LogFault) (settings : PageSettings) (address : ℕ)
    (log last : LogState) (left_old left left_new held_old before held_new : Option (List ℕ))
    → r ≡ Err e → address ≡ unwrap_or settings.address 0 → log ≡ log_of settings.colour settings.address
    → Consumes left_old left (head_octets (magic_of Uplink)) → PutsText held_old before
    → AreMinutesPutUpTo e address log last left left_new before held_new
    → IsPagePutByEnd r settings left_old left_new held_old held_new
page_in_part_by r e settings address log last left_old left left_new held_old before held_new
    failed same_address same_log uplink head put =
    subst (λ s. IsPagePutByEnd s settings left_old left_new held_old held_new) (sym failed)
    (page_in_part e settings last left_old left left_new held_old before held_new uplink head
    (subst (λ (s : LogState). AreMinutesPutUpTo e (unwrap_or settings.address 0) s last left left_new before held_new) same_log
    (subst (λ (n : ℕ). AreMinutesPutUpTo e n log last left left_new before held_new) same_address put)))

-- A page whose end is a text is put whole, or that can't be printed.
pub page_by_end : {T : Type 0} (r : Result T LogFault) (settings : PageSettings)
    (left_old left_new held_old held_new : Option (List ℕ))
    → OnOk r (IsPagePut settings left_old left_new held_old held_new) → IfErr r IsPrintFault
    → IsPagePutByEnd r settings left_old left_new held_old held_new
page_by_end (Ok x) settings left_old left_new held_old held_new put fault = put
page_by_end (Err e) settings left_old left_new held_old held_new put fault =
    page_unsaid e settings left_old left_new held_old held_new fault

-- A page is put whole.
pub page_whole : {settings : PageSettings} {address : ℕ} {log last : LogState}
    {left_old left left_new held_old before behind held_new : Option (List ℕ)}
    → address ≡ unwrap_or settings.address 0 → log ≡ log_of settings.colour settings.address
    → Consumes left_old left (head_octets (magic_of Uplink)) → PutsText held_old before
    → AreMinutesPut address log last left left_new before behind
    → IsAtEnd left_new → PutsText behind held_new → IsPagePut settings left_old left_new held_old held_new
page_whole {settings = settings} {log = log} {last = last} {left = left} {left_new = left_new} {before = before} {behind = behind}
    same_address same_log uplink head minutes all end = record {
      left = _;
      before = _;
      behind = _;
      last = _;
      uplink = uplink;
      head = head;
      minutes = subst (λ (s : LogState). AreMinutesPut (unwrap_or settings.address 0) s last left left_new before behind) same_log
          (subst (λ (n : ℕ). AreMinutesPut n log last left left_new before behind) same_address minutes);
      end = end;
      all = all;
    }

-- what holds anyhow holds at an Ok
pub at_ok : {T E X : Type 0} (r : Result T E) → X → OnOk r X
at_ok (Ok x) holds = holds
at_ok (Err e) holds = tt
