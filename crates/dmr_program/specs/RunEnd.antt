-- How runs end.
use Rattle.std.specs.Prelude.{ℕ, Result, Ok, Err}
use Rattle.dmr_lines.specs.Status.{success, failure, usage}
use Rattle.dmr_repeater.specs.declared.fault.RunFault.{RunFault}
use Rattle.dmr_repeater.specs.declared.summary.Summary.{Summary}
use Rattle.dmr_program.specs.declared.run_end.RunEnd.{RunEnd}
use Rattle.dmr_program.specs.declared.run_end.RunEnd.TheVariants.{Done, Fault, CannotOpen, Terminal, Setting}

-- of a run over open files: at their end, or at a fault
abbrev pub end_of : Result Summary RunFault → RunEnd
end_of (Ok summary) = Done summary
end_of (Err fault) = Fault fault

-- at the end of its files
abbrev pub IsDone : RunEnd → Type 0
IsDone (Done summary) = Unit {0}
IsDone end = ⊥

-- The exit status: success of a run that was done, failure of one that wasn't, and that of usage of one that can't be asked for.
abbrev pub status_of : RunEnd → ℕ
status_of (Done summary) = success
status_of (Fault fault) = failure
status_of (CannotOpen stream) = failure
status_of (Terminal stream) = failure
status_of (Setting fault) = usage
