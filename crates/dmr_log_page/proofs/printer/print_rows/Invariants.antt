-- The rows so far were put.
use Rattle.std.proofs.Common.{◌≡◌, false, take}
use Rattle.dmr_log_page.specs.Minutes.{entries_of}
use Rattle.dmr_log_page.specs.Rows.{PutsRows}
use Rattle.dmr_log_page.proofs.printer.print_rows.Given as goal

abbrev pub invariant-loop-row : goal.invariant-loop-row
invariant-loop-row g l = record {
  well : g.K.Sink.has_failed l.sink ≡ false;
  put : PutsRows (entries_of (take l.row-index l.rows)) (g.K.Sink.held l.initial.sink) (g.K.Sink.held l.sink);
}
