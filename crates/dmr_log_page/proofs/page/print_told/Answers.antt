use Rattle.std.proofs.Common.{rules, ap, Err, ◌≡◌, ◌∙◌}
use Rattle.std.proofs.lemmas.Result.{err_from_is_err_and, on_ok_weaker}
use Rattle.std.specs.Option.{unwrap_or}
use Rattle.dmr_log_page.proofs.Endings.{at_ok, page_by_end, page_in_part_by, page_whole, read_by_end}
use Rattle.dmr_log_page.proofs.page.print_told.Goals as goal

pub returns-in_err-summary-clause-put : goal.returns-in_err-summary-clause-put
returns-in_err-summary-clause-put g c =
    let same : c.unwrap_or.result ≡ unwrap_or c.args.settings.now.address 0 = search rules in
    let p = err_from_is_err_and c.from_residual-in_err-summary.result c.from_residual-in_err-summary.ensures.1 in
    page_in_part_by c.from_residual-in_err-summary.result c.in_err-summary.field-0.0 _ _ _ _ _ _ _ _ _ _ (p.1 ∙ ap Err p.2) same
    c.requires.new c.in_ok-read_uplink_head.ensures.uplink c.in_ok-print.ensures.text c.in_err-summary.ensures.put

pub returns-clause-put : goal.returns-clause-put
returns-clause-put g c =
    let same : c.unwrap_or.result ≡ unwrap_or c.args.settings.now.address 0 = search rules in
    page_by_end c.print-2.result _ _ _ _ _
    (on_ok_weaker c.print-2.result
    (page_whole same c.requires.new c.in_ok-read_uplink_head.ensures.uplink c.in_ok-print.ensures.text
    c.in_ok-summary.ensures.put c.in_ok-summary.ensures.end)
    c.print-2.ensures.text)
    c.print-2.ensures.fault

pub returns-clause-well : goal.returns-clause-well
returns-clause-well g c = at_ok c.print-2.result c.in_ok-summary.ensures.well

pub returns-clause-source : goal.returns-clause-source
returns-clause-source g c = read_by_end c.print-2.result _ c.print-2.ensures.fault
