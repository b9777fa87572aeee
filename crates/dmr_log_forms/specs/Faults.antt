-- Why a log wasn't printed whole.
use Rattle.std.specs.Prelude.{Bool, true, false, Result, Ok, Err}
use Rattle.dmr_log_forms.specs.declared.fault.LogFault.{LogFault}
use Rattle.dmr_log_forms.specs.declared.fault.LogFault.TheVariants as fault

-- whether a sink has failed to which something was printed
abbrev pub has_sink_failed : {T : Type 0} → Result T LogFault → Bool
has_sink_failed (Ok x) = false
has_sink_failed (Err fault.Output) = true
has_sink_failed (Err e) = false
