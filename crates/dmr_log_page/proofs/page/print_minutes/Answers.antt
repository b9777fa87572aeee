use Rattle.std.proofs.Common.{rules, ◌≡◌, true, false}
use Rattle.dmr_log_forms.proofs.Refused.{at_file, holds_refused, not_written}
use Rattle.dmr_log_page.proofs.Taken.{all_put, begun_with, page_with, put_up_to_fault}
use Rattle.dmr_log_page.specs.Minutes.{entries_of}
use Rattle.dmr_log_page.proofs.page.print_minutes.Goals as goal

pub returns-in_ok-print_last-in-Ok-clause-put : goal.returns-in_ok-print_last-in-Ok-clause-put
returns-in_ok-print_last-in-Ok-clause-put g c =
    let all = c.in-Ok.ensures.all in
    let begin = begun_with (g.K.Sink.held c.args.sink.now) c.requires.none in
    let put = all_put (λ p. page_with (g.K.Sink.held p.sink.now) (entries_of p.minute.now.rows.items))
    (λ p. p.printing) all.0 all.1 all.2 begin all.3 all.4 c.in_ok-print_last-in-Ok.ensures.last in
    search (rules, put)

pub returns-in_ok-print_last-in-Err-File-clause-put : goal.returns-in_ok-print_last-in-Err-File-clause-put
returns-in_ok-print_last-in-Err-File-clause-put g c =
    let (read, between, logged, rest) = at_file _ c.in-Err-File.field-0 c.in-Err-File.field-0-is c.in-Err-File.ensures.fault in
    let begin = begun_with (g.K.Sink.held c.args.sink.now) c.requires.none in
    let put = put_up_to_fault (λ p. page_with (g.K.Sink.held p.sink.now) (entries_of p.minute.now.rows.items))
    (λ p. p.printing) read between begin logged rest c.in_ok-print_last-in-Err-File.ensures.last in
    search (rules, put)

pub returns-in-Err-Output-clause-failed : goal.returns-in-Err-Output-clause-failed
returns-in-Err-Output-clause-failed g c =
    let well = holds_refused {new = c.log_recording.new.lines}
    (not_written c.in-Err-Output.field-0 c.in-Err-Output.field-0-is c.in-Err-Output.ensures.output)
    (λ p. p.is_refused ≡ true → g.K.Sink.has_failed p.sink.now ≡ false) (λ a told b same is. same is) c.if-printer.true in
    search (rules, well)
