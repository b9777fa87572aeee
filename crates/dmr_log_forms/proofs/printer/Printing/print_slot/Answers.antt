use Rattle.std.proofs.Common.{rules}
use Rattle.dmr_log_forms.proofs.Puts.{puts_failed, puts_more}
use Rattle.dmr_log_forms.proofs.printer.Printing.print_slot.Goals as goal

pub returns-in_err-print_ended-clause-put : goal.returns-in_err-print_ended-clause-put
returns-in_err-print_ended-clause-put g c =
    puts_failed c.from_residual.result c.in_err-print_ended.field-0.0 c.args.self.now.form _ _ _ _ (search rules)
    c.in_err-print_ended.ensures.put

pub returns-clause-put : goal.returns-clause-put
returns-clause-put g c =
    puts_more c.print_records.result c.args.self.now.form _ _ _ _ _ c.in_ok-print_ended.ensures.put c.print_records.ensures.put
