use Rattle.std.proofs.Common.{◌≡◌, ℕ, ◌+◌, ◌<◌, ◌==◌, List, length, subst, get_or, set, ap, sym, ◌∙◌, arith, inl, inr}
use Rattle.std.specs.Prelude.{bit_xor}
use Rattle.std.proofs.lemmas.Bool.{cases_eq}
use Rattle.std.proofs.lemmas.List.{get_or-set_same, get_or-set_other}
use Rattle.std.proofs.lemmas.Nat.{xor_lt}
use Rattle.dmr_bits.specs.Bits.{xor}
use Rattle.dmr_codes.specs.Seven.{hamming13_columns}
use Rattle.dmr_bptc.specs.Rows.{row_bit}
use Rattle.dmr_bptc.specs.Sums.{failing_in}
use Rattle.dmr_bptc.proofs.ColumnSums.{bit_of, bit_of_xor}
use Rattle.dmr_bptc.proofs.RowNumbers.{small_more}
use Rattle.dmr_bptc.proofs.table.checks.turn_wrong_bits.Goals as goal

-- one row more has its wrong bits turned
turned_more : (cs before rows : List ℕ) (checks : ℕ → ℕ) (i columns : ℕ) → i < length rows → get_or rows i 0 ≡ get_or before i 0
    → ((c : ℕ) → c < 15 → bit_of c columns ≡ (checks c == get_or cs i 0))
    → ((r c : ℕ) → r < i → c < 15 → row_bit rows r c ≡ xor (row_bit before r c) (checks c == get_or cs r 0))
    → (r c : ℕ) → r < i + 1 → c < 15
    → row_bit (set rows i (bit_xor (get_or rows i 0) columns)) r c ≡ xor (row_bit before r c) (checks c == get_or cs r 0)
turned_more cs before rows checks i columns below kept value done r c h k =
    let n : ℕ = bit_xor (get_or rows i 0) columns in
    elim (cases_eq r i) [
      | inl same ↦ subst (λ (j : ℕ). row_bit (set rows i n) j c ≡ xor (row_bit before j c) (checks c == get_or cs j 0)) (sym same)
          (ap (bit_of c) (get_or-set_same rows i n 0 below)
          ∙ bit_of_xor c (get_or rows i 0) columns k
          ∙ ap (λ m. xor (bit_of c m) (bit_of c columns)) kept
          ∙ ap (xor (row_bit before i c)) (value c k))
      | inr apart ↦ ap (bit_of c) (get_or-set_other rows i r n 0 apart) ∙ done r c (omega arith) k
    ]

pub loop-row-preserved : goal.loop-row-preserved
loop-row-preserved c =
    let before : List ℕ = c.args.rows.now in
    let rows : List ℕ = c.loop-row.rows in
    let i : ℕ = c.loop-row.row in
    let old : ℕ = get_or rows i 0 in
    let columns : ℕ = c.columns_with.result in
    let below : i < length rows = omega arith in
    record {
      small = small_more rows i (bit_xor old columns)
          (xor_lt 15 old columns (c.loop-row.invariant.small i 0 below) c.columns_with.ensures.fits) c.loop-row.invariant.small;
      turned = turned_more hamming13_columns before rows (failing_in c.args.failing.now) i columns below
          (c.loop-row.invariant.kept i (omega arith)) c.columns_with.ensures.value c.loop-row.invariant.turned;
      kept = λ r h. get_or-set_other rows i r (bit_xor old columns) 0 (λ z. absurd (omega arith))
          ∙ c.loop-row.invariant.kept r (omega arith);
    }

pub returns-clause-turned : goal.returns-clause-turned
returns-clause-turned c r k h l = c.loop-row.invariant.turned r k (omega arith) l
