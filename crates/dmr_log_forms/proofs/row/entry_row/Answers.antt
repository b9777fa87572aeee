use Rattle.std.proofs.Common.{◌∙◌, ap}
use Rattle.std.proofs.lemmas.Result.{IfOk-weaker}
use Rattle.csv.specs.Writing.{default_writer, row_text}
use Rattle.dmr_log_forms.proofs.row.entry_row.Goals as goal

pub returns : goal.returns
returns c = record {
  shows = IfOk-weaker c.row_of.result _ _
      (λ row written. (_, c.of_entry-cells.ensures.shows, written ∙ ap (row_text default_writer) c.octets.ensures.value))
      c.row_of.ensures.row;
}
