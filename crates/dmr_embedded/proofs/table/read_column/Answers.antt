use Rattle.std.proofs.Common.{◌+◌, ◌-◌, ◌*◌, drop, false, get_or, ap, ◌∙◌, arith}
use Rattle.std.proofs.lemmas.List.{get_or-take, get_or-drop}
use Rattle.dmr_embedded.proofs.Cells.{column_from}
use Rattle.dmr_embedded.proofs.table.read_column.Goals as goal

pub returns : goal.returns
returns c = record {
  value = column_from c.args.bits.now c.part.result c.args.column_number (c.part.ensures.count ∙ omega arith)
      (λ r h. ap (λ l. get_or l r false) c.part.ensures.value
      ∙ get_or-take (8 * c.args.column_number + 8 - 8 * c.args.column_number) (drop (8 * c.args.column_number) c.args.bits.now) r
      false (omega arith)
      ∙ get_or-drop (8 * c.args.column_number) c.args.bits.now r false);
}
