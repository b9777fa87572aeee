use Rattle.std.proofs.Common.{◌≡◌, ℕ, ◌^◌, ◌<◌, ◌≤◌, ◌==◌, get_or}
use Rattle.std.specs.List.{All}
use Rattle.dmr_bits.specs.Bits.{xor}
use Rattle.dmr_codes.specs.Seven.{hamming13_columns}
use Rattle.dmr_bptc.specs.Rows.{row_bit}
use Rattle.dmr_bptc.specs.Sums.{failing_in}
use Rattle.dmr_bptc.proofs.table.checks.turn_wrong_bits.Given as goal

abbrev pub invariant-loop-row : goal.invariant-loop-row
invariant-loop-row l = record {
  small : All (λ row. row < 2 ^ 15) l.rows;
  turned : (r c : ℕ) → r < l.row → c < 15 → row_bit l.rows r c
      ≡ xor (row_bit l.fn.rows r c) (failing_in l.failing c == get_or hamming13_columns r 0);
  kept : (r : ℕ) → l.row ≤ r → get_or l.rows r 0 ≡ get_or l.fn.rows r 0;
}
