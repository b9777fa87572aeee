use Rattle.std.proofs.Common.{rules, ◌≡◌, false, true}
use Rattle.dmr_log_forms.proofs.Told.{all_put, put_up_to_fault}
use Rattle.dmr_log_forms.proofs.Refused.{at_file, holds_refused, not_written, refused_any}
use Rattle.dmr_log_forms.proofs.printing.print_entries.Goals as goal

pub returns-in-Err-Output-clause-put : goal.returns-in-Err-Output-clause-put
returns-in-Err-Output-clause-put g c =
    let put = refused_any (λ p. g.K.Sink.held p.sink.now) (λ p. p.printing) (λ p. p.is_refused)
    (λ p. g.K.Sink.has_failed p.sink.now ≡ false) {new = c.log_recording.new.lines} c.if-printer.true
    (not_written c.in-Err-Output.field-0 c.in-Err-Output.field-0-is c.in-Err-Output.ensures.output) in
    search (rules, put)

pub returns-in-Err-Output-clause-failed : goal.returns-in-Err-Output-clause-failed
returns-in-Err-Output-clause-failed g c =
    let well = holds_refused {new = c.log_recording.new.lines}
    (not_written c.in-Err-Output.field-0 c.in-Err-Output.field-0-is c.in-Err-Output.ensures.output)
    (λ p. p.is_refused ≡ true → g.K.Sink.has_failed p.sink.now ≡ false) (λ a told b same is. (same is).0) c.if-printer.true in
    search (rules, well)

pub returns-in-Ok-clause-put : goal.returns-in-Ok-clause-put
returns-in-Ok-clause-put g c =
    let all = c.in-Ok.ensures.all in
    let put = all_put (λ p. g.K.Sink.held p.sink.now) (λ p. p.printing) all.0 all.1 all.2 all.3 all.4 in
    search (rules, put)

pub returns-in-Err-File-clause-put : goal.returns-in-Err-File-clause-put
returns-in-Err-File-clause-put g c =
    let (read, between, logged, rest) = at_file _ c.in-Err-File.field-0 c.in-Err-File.field-0-is c.in-Err-File.ensures.fault in
    let put = put_up_to_fault (λ p. g.K.Sink.held p.sink.now) (λ p. p.printing) read between logged rest in
    search (rules, put)
