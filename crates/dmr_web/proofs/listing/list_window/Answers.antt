use Rattle.dmr_web.proofs.Windows.{end_and_line, fault_and_line, of_file}
use Rattle.dmr_web.proofs.listing.list_window.Goals as goal

pub returns-in-Ok-print_summary-clause-whole : goal.returns-in-Ok-print_summary-clause-whole
returns-in-Ok-print_summary-clause-whole g c = rw c.print_summary.ensures.same_taken
    (end_and_line _ _ _ _ _ _ _ _ _ _ c.in-Ok.ensures.whole c.in-Ok-print_summary.ensures.line)

pub returns-in-Ok-print-clause-fault : goal.returns-in-Ok-print-clause-fault
returns-in-Ok-print-clause-fault g c = rw c.print.ensures.same_taken
    (fault_and_line _ _ _ _ _ _ _ _ _ _ _ (of_file _ _ _ c.in-Err-File.field-0-is c.in-Err-File.ensures.fault)
    c.in-Ok-print.ensures.line)
