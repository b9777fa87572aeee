-- How a run ends over an outgoing list of known records.
use Rattle.std.proofs.Common.{◌≡◌, true, ℕ, List, [], length, Option, Some, None, Result, Ok, Err}
use Rattle.std.proofs.Common.{refl, sym, ap, ◌∙◌, inl, inr, arith}
use Rattle.std.specs.Prelude.{IfErr}
use Rattle.dmr_files.specs.declared.system.Open.{Open}
use Rattle.dmr_record.specs.Faults.{is_device_fault}
use Rattle.dmr_record.specs.Head.{outgoing_magic}
use Rattle.dmr_record.specs.Outgoing.{Sending, outgoing_file, sendings_octets}
use Rattle.dmr_record.specs.declared.fault.RecordFault.{RecordFault}
use Rattle.dmr_record.specs.declared.fault.RecordFault.TheVariants.{Read}
use Rattle.dmr_station.specs.StationRules.{Settings}
use Rattle.dmr_repeater.specs.Causes.{IfOutgoing}
use Rattle.dmr_repeater.specs.Files.{Files, KnownOctets}
use Rattle.dmr_repeater.specs.Runs.{HasOutgoing, LeavesByTheRules, OutgoingFault, from_frame}
use Rattle.dmr_repeater.specs.declared.fault.RunFault.{RunFault}
use Rattle.dmr_repeater.specs.declared.fault.RunFault.TheVariants.{File, Memory}
use Rattle.dmr_repeater.specs.declared.fault.Stream.TheVariants.{Uplink, Outgoing, Downlink, Received}
use Rattle.dmr_repeater.specs.declared.summary.Summary.{Summary}
use Rattle.dmr_repeater.proofs.Files.{no_fault_ahead}
use Rattle.dmr_repeater.proofs.Told.{no_fault_stops, same_records}
use Rattle.dmr_program.specs.Devices.{list_left, list_opened}
use Rattle.dmr_program.specs.Ending.{EndsOver}
use Rattle.dmr_program.specs.RunEnd.{end_of}
use Rattle.dmr_program.specs.declared.devices.OutgoingList.{OutgoingList}

-- the one fault of a device that is read
failed_read : (e : RecordFault) → is_device_fault e ≡ true → e ≡ Read
failed_read Read is = refl
failed_read e is = cc

-- a run over these records counts those that it hasn't offered, and meets no fault of them
pub ends_over : (s : Settings) (result : Result Summary RunFault) (a z : Files) (sendings : List Sending)
    → LeavesByTheRules s result a z → IfErr result (λ e. IfOutgoing e (λ fault. OutgoingFault s fault a z))
    → HasOutgoing sendings a.outgoing → EndsOver sendings (end_of result)
ends_over s (Ok summary) a z sendings left found has =
    let same = same_records a.outgoing z.outgoing left.sendings sendings left.outgoing left.end has in
    left.unoffered ∙ ap (λ (l : List Sending). length (from_frame summary.frames l)) (sym same)
ends_over s (Err Memory) a z sendings left found has = tt
ends_over s (Err (File Uplink fault)) a z sendings left found has = tt
ends_over s (Err (File Outgoing fault)) a z sendings left (inl found) has =
    failed_read fault
    (no_fault_ahead outgoing_magic (sendings_octets sendings) a.outgoing z.outgoing fault found.taken refl has.has found.read
    found.shown found.end)
ends_over s (Err (File Outgoing fault)) a z sendings left (inr found) has =
    failed_read fault
    (no_fault_stops fault found.sendings sendings found.part a.outgoing z.outgoing found.reads found.shown found.end has)
ends_over s (Err (File Downlink fault)) a z sendings left found has = tt
ends_over s (Err (File Received fault)) a z sendings left found has = tt

-- a list that is left out has no record
pub has_none : (left : KnownOctets) → left ≡ Some (outgoing_file []) → HasOutgoing [] left
has_none left has = record { each = tt; order = tt; few = omega arith; has = has }

-- the list of an open file, or of none
pub of_opened : {I : Type 0} (left : I → Option (List ℕ)) (list : OutgoingList I) (opened : Option (Open I)) (file : Option I)
    → (opened ≡ None → file ≡ None) → ((given : Open I) → opened ≡ Some given → file ≡ Some given.file)
    → (file ≡ None → list_left left list ≡ Some (outgoing_file []))
    → ((given : I) → file ≡ Some given → list_left left list ≡ left given) → list_left left list ≡ list_opened left opened
of_opened left list None file none some empty full = empty (none refl)
of_opened left list (Some opened) file none some empty full = full opened.file (some opened refl)
