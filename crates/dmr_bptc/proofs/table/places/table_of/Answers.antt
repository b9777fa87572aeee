use Rattle.std.proofs.Common.{◌≡◌, ℕ, ◌+◌, ◌*◌, ◌/◌, ◌%◌, ◌∙◌, ap, arith}
use Rattle.std.proofs.lemmas.List.{length-set}
use Rattle.dmr_bptc.specs.ProductWord.{cell}
use Rattle.dmr_bptc.proofs.Spelled.{field_at}
use Rattle.dmr_bptc.proofs.RowNumbers.{row_bits_more, small_more, cell_laid}
use Rattle.dmr_bptc.proofs.table.places.table_of.Goals as goal

pub loop-row-preserved : goal.loop-row-preserved
loop-row-preserved c =
    let r : ℕ = c.loop-row.row in
    let n : ℕ = c.field.result in
    record {
      long = length-set c.loop-row.rows r n ∙ c.loop-row.invariant.long;
      small = small_more c.loop-row.rows r n c.field.ensures.bound c.loop-row.invariant.small;
      cells = row_bits_more c.args.bits.now c.loop-row.rows r n (omega
          (arith, c.loop-row.invariant.long)) c.loop-row.invariant.cells
          (λ k h. let line : (15 * r + k) / 15 ≡ r = omega arith in
          let across : (15 * r + k) % 15 ≡ k = omega arith in
          field_at c.received_cells-cells.result (15 * r) 15 n k (omega (arith, c.field.ensures.length)) c.field.ensures.value h
          ∙ c.received_cells-cells.ensures.cells (15 * r + k) (omega arith)
          ∙ ap (λ j. cell c.args.bits.now j ((15 * r + k) % 15)) line ∙ ap (cell c.args.bits.now r) across);
    }

pub invariant_of-result : goal.invariant_of-result
invariant_of-result c = record { long = c.loop-row.invariant.long; small = c.loop-row.invariant.small }

pub returns : goal.returns
returns c = record {
  cells = λ r k h l. cell_laid c.loop-row.rows r k h l ∙ c.loop-row.invariant.cells r k (omega arith) l;
}
