use Rattle.std.proofs.Common.{rules, ◌≡◌}
use Rattle.std.proofs.lemmas.Result.{on_ok_weaker}
use Rattle.dmr_log_forms.proofs.Ends.{at_ok, part_put_by, put_by_end, read_by_end}
use Rattle.dmr_log_forms.proofs.Told.{log_put}
use Rattle.std.specs.Option.{unwrap_or}
use Rattle.dmr_log_forms.proofs.printing.print_told.Goals as goal

pub returns-in_err-summary-clause-put : goal.returns-in_err-summary-clause-put
returns-in_err-summary-clause-put g c =
    let same : c.unwrap_or.result ≡ unwrap_or c.args.settings.now.address 0 = search rules in
    part_put_by c.from_residual-in_err-summary.result c.in_err-summary.field-0.0 _ _ _ _ _ _ _ _ _ _ (search rules) same
    c.requires.new c.in_ok-read_uplink_head.ensures.uplink c.in_ok-print_head.ensures.head c.in_err-summary.ensures.put

pub returns-clause-put : goal.returns-clause-put
returns-clause-put g c =
    let same : c.unwrap_or.result ≡ unwrap_or c.args.settings.now.address 0 = search rules in
    put_by_end c.print_end.result _ _ _ _ _
    (on_ok_weaker c.print_end.result
    (log_put same c.requires.new c.in_ok-read_uplink_head.ensures.uplink c.in_ok-print_head.ensures.head
    c.in_ok-summary.ensures.put c.in_ok-summary.ensures.end)
    c.print_end.ensures.end)
    c.print_end.ensures.fault

pub returns-clause-well : goal.returns-clause-well
returns-clause-well g c = at_ok c.print_end.result c.in_ok-summary.ensures.well

pub returns-clause-source : goal.returns-clause-source
returns-clause-source g c = read_by_end c.print_end.result _ c.print_end.ensures.fault
