-- Filling the table row by row, and then column by column.
use Rattle.std.proofs.Common.{◌≡◌, ℕ, ◌+◌, ◌-◌, ◌*◌, ◌/◌, ◌%◌, ◌<◌, ◌≢◌, Bool, false, List, refl, sym, ◌∙◌, ap, subst, arith, cond}
use Rattle.std.proofs.Common.{get_or, inl, inr}
use Rattle.std.specs.Prelude.{nat_lt}
use Rattle.std.proofs.lemmas.Bool.{cases_eq, lt-ltb, le-ltb}
use Rattle.dmr_codes.specs.Seven.{IsHamming13, IsHamming15, hamming13_columns, hamming15_columns, hamming13_shaped}
use Rattle.dmr_codes.proofs.Tables.{all_rows as rows_from}
use Rattle.dmr_bptc.specs.ProductWord.{cell, row, column}
use Rattle.dmr_bptc.specs.ProductWord.{information_cell}
use Rattle.dmr_bptc.proofs.Cells.{row_same, column_same}

-- Where all columns are words and the upper nine rows are, all rows are.
pub all_rows : (bits : List Bool) → ((c : ℕ) → c < 15 → IsHamming13 (column bits c)) → ((r : ℕ) → r < 9 → IsHamming15 (row bits r))
    → (r : ℕ) → r < 13 → IsHamming15 (row bits r)
unfolding row column
all_rows bits columns rows r h =
    rows_from (cell bits) 13 9 hamming13_columns 15 4 hamming15_columns hamming13_shaped refl columns rows r h

-- one row, or one column, more
pub rows_more : (before after : List Bool) (i : ℕ) → i < 13 → ((k : ℕ) → k < i → IsHamming15 (row before k))
    → IsHamming15 (row after i) → ((r c : ℕ) → r < 13 → c < 15 → r ≢ i → cell after r c ≡ cell before r c) → (k : ℕ) → k < i + 1
    → IsHamming15 (row after k)
rows_more before after i below words new kept k h =
    let P : List Bool → Type 0 = IsHamming15 in
    elim (cases_eq k i) [
      | inl same ↦ subst (λ (j : ℕ). P (row after j)) (sym same) new
      | inr apart ↦ subst P (sym (row_same after before k (λ c b. kept k c (omega arith) b apart))) (words k (omega arith))
    ]

-- one column more is a word, and those before it, whose cells are kept, still are
pub columns_more : (before after : List Bool) (i : ℕ) → i < 15 → ((k : ℕ) → k < i → IsHamming13 (column before k))
    → IsHamming13 (column after i) → ((r c : ℕ) → r < 13 → c < 15 → c ≢ i → cell after r c ≡ cell before r c) → (k : ℕ) → k < i + 1
    → IsHamming13 (column after k)
columns_more before after i below words new kept k h =
    let P : List Bool → Type 0 = IsHamming13 in
    elim (cases_eq k i) [
      | inl same ↦ subst (λ (j : ℕ). P (column after j)) (sym same) new
      | inr apart ↦ subst P (sym (column_same after before k (λ r b. kept r k b (omega arith) apart))) (words k (omega arith))
    ]

-- one row more holds its information, and those before it, whose cells are kept, still do
pub cells_more : (message before after : List Bool) (i : ℕ) → i < 9
    → ((r c : ℕ) → r < i → c < 11 → cell before r c ≡ information_cell message r c)
    → ((c : ℕ) → c < 11 → cell after i c ≡ information_cell message i c)
    → ((r c : ℕ) → r < 13 → c < 15 → r ≢ i → cell after r c ≡ cell before r c) → (r c : ℕ) → r < i + 1 → c < 11
    → cell after r c ≡ information_cell message r c
cells_more message before after i below done new kept r c h k =
    elim (cases_eq r i) [
      | inl same ↦ rw same (new c k)
      | inr apart ↦ kept r c (omega arith) (omega arith) apart ∙ done r c (omega arith) k
    ]

-- each bit of the information stands in the cell of its number, behind the three reserved cells
pub information_cell_at : (bits : List Bool) (k : ℕ) → information_cell bits ((k + 3) / 11) ((k + 3) % 11) ≡ get_or bits k false
information_cell_at bits k =
    let whole : 11 * ((k + 3) / 11) + (k + 3) % 11 ≡ k + 3 = omega arith in
    let back : k + 3 - 3 ≡ k = omega arith in
    ap (λ n. cond (nat_lt n 3) false (get_or bits (n - 3) false)) whole
    ∙ ap (λ b. cond b false (get_or bits (k + 3 - 3) false)) (le-ltb (k + 3) 3 (omega arith))
    ∙ ap (λ n. get_or bits n false) back

-- the three reserved cells are zero, whatever the information is
pub reserved_cell : (bits : List Bool) (c : ℕ) → c < 3 → information_cell bits 0 c ≡ false
reserved_cell bits c h =
    let whole : 11 * 0 + c ≡ c = omega arith in
    ap (λ n. cond (nat_lt n 3) false (get_or bits (n - 3) false)) whole
    ∙ ap (λ b. cond b false (get_or bits (c - 3) false)) (lt-ltb c 3 h)
