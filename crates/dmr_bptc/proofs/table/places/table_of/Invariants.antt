use Rattle.std.proofs.Common.{◌≡◌, ℕ, ◌^◌, ◌<◌, length}
use Rattle.std.specs.List.{All}
use Rattle.dmr_bptc.specs.ProductWord.{cell}
use Rattle.dmr_bptc.specs.Rows.{row_bit}
use Rattle.dmr_bptc.proofs.table.places.table_of.Given as goal

abbrev pub invariant-loop-row : goal.invariant-loop-row
invariant-loop-row l = record {
  long : length l.rows ≡ 13;
  small : All (λ row. row < 2 ^ 15) l.rows;
  cells : (r c : ℕ) → r < l.row → c < 15 → row_bit l.rows r c ≡ cell l.bits r c;
}
