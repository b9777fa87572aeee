use Rattle.std.proofs.Common.{rules}
use Rattle.dmr_log_forms.proofs.Puts.{puts_early, puts_failed, puts_failed_behind, puts_last, puts_more, puts_up_to}
use Rattle.dmr_log_forms.proofs.printer.Printing.print_four.Goals as goal

pub returns-in_err-print_record-clause-put : goal.returns-in_err-print_record-clause-put
returns-in_err-print_record-clause-put g c =
    puts_failed c.from_residual.result c.in_err-print_record.field-0.0 c.args.self.now.form _ _ _ _ (search rules)
    c.in_err-print_record.ensures.put

pub returns-in_err-print_record-2-clause-put : goal.returns-in_err-print_record-2-clause-put
returns-in_err-print_record-2-clause-put g c =
    let e = c.in_err-print_record-2.field-0.0 in
    let f = c.args.self.now.form in
    puts_failed_behind c.from_residual-in_err-print_record-2.result e f _ _ _ _ _ (search rules) c.in_ok-print_record.ensures.put
    (puts_early e f _ _ _ _ c.in_err-print_record-2.ensures.put)

pub returns-in_err-print_record-3-clause-put : goal.returns-in_err-print_record-3-clause-put
returns-in_err-print_record-3-clause-put g c =
    let e = c.in_err-print_record-3.field-0.0 in
    let f = c.args.self.now.form in
    puts_failed_behind c.from_residual-in_err-print_record-3.result e f _ _ _ _ _ (search rules) c.in_ok-print_record.ensures.put
    (puts_up_to e f _ _ _ _ _ c.in_ok-print_record-2.ensures.put (puts_early e f _ _ _ _ c.in_err-print_record-3.ensures.put))

pub returns-clause-put : goal.returns-clause-put
returns-clause-put g c =
    let f = c.args.self.now.form in
    puts_more c.print_record-4.result f _ _ _ _ _ c.in_ok-print_record.ensures.put
    (puts_more c.print_record-4.result f _ _ _ _ _ c.in_ok-print_record-2.ensures.put
    (puts_more c.print_record-4.result f _ _ _ _ _ c.in_ok-print_record-3.ensures.put
    (puts_last c.print_record-4.result f _ _ _ c.print_record-4.ensures.put)))
