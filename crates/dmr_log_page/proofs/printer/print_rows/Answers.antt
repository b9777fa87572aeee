use Rattle.std.proofs.Common.{rules, ◌<◌, length, sym, subst}
use Rattle.dmr_log_page.proofs.RowLemmas.{entries_of_more, rows_more}
use Rattle.dmr_log_page.specs.Rows.{PutsRows}
use Rattle.dmr_log_page.proofs.printer.print_rows.Goals as goal

pub loop-row-preserved : goal.loop-row-preserved
loop-row-preserved g c =
    let lt : c.loop-row.row-index < length c.args.rows.now = search rules in
    record {
      well = search rules;
      put = subst (λ cs. PutsRows cs (g.K.Sink.held c.args.sink.now) (g.K.Sink.held c.print_row.new.sink))
          (sym (entries_of_more c.args.rows.now c.loop-row.row-index _ lt))
          (rows_more _ _ _ _ _ c.loop-row.invariant.put c.in_ok-print_row.ensures.row);
    }
