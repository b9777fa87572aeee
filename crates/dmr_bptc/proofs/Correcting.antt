-- Corrections, one row or column after the other, and that there is one.
use Rattle.std.proofs.Common.{◌≡◌, ℕ, ◌+◌, ◌≤◌, ◌<◌, ◌≢◌, Bool, true, false, List, length, refl, sym, ◌∙◌, ap, subst, arith, get_or}
use Rattle.std.proofs.Common.{ext_get_or, inl, inr}
use Rattle.std.proofs.lemmas.Bool.{cases_eq, cases_lt}
use Rattle.dmr_bits.specs.Bits.{distance}
use Rattle.dmr_codes.specs.Seven.{IsHamming13, IsHamming15}
use Rattle.dmr_bptc.specs.ProductWord.{cell, row, column}
use Rattle.dmr_bptc.specs.Decoding.{IsCorrected}
use Rattle.dmr_bptc.proofs.Cells.{row_same, column_same}

-- One column more is corrected.
pub corrected_columns_more : (before now after : List Bool) (i : ℕ) → i < 15
    → ((k : ℕ) → k < i → IsCorrected IsHamming13 (column before k) (column now k))
    → ((r c : ℕ) → r < 13 → c < 15 → i ≤ c → cell now r c ≡ cell before r c)
    → IsCorrected IsHamming13 (column now i) (column after i)
    → ((r c : ℕ) → r < 13 → c < 15 → c ≢ i → cell after r c ≡ cell now r c)
    → (k : ℕ) → k < i + 1 → IsCorrected IsHamming13 (column before k) (column after k)
corrected_columns_more before now after i below done kept new others k h =
    let P : List Bool → List Bool → Type 0 = IsCorrected IsHamming13 in
    elim (cases_eq k i) [
      | inl same ↦
          subst (λ (j : ℕ). P (column before j) (column after j)) (sym same)
          (subst (λ (x : List Bool). P x (column after i)) (column_same now before i (λ r b. kept r i b below (omega arith))) new)
      | inr apart ↦
          let low : k < i = omega arith in
          subst (P (column before k)) (sym (column_same after now k (λ r b. others r k b (omega arith) apart))) (done k low)
    ]

-- One row more is corrected.
pub corrected_rows_more : (before now after : List Bool) (i : ℕ) → i < 13
    → ((k : ℕ) → k < i → IsCorrected IsHamming15 (row before k) (row now k))
    → ((r c : ℕ) → r < 13 → c < 15 → i ≤ r → cell now r c ≡ cell before r c)
    → IsCorrected IsHamming15 (row now i) (row after i)
    → ((r c : ℕ) → r < 13 → c < 15 → r ≢ i → cell after r c ≡ cell now r c)
    → (k : ℕ) → k < i + 1 → IsCorrected IsHamming15 (row before k) (row after k)
corrected_rows_more before now after i below done kept new others k h =
    let P : List Bool → List Bool → Type 0 = IsCorrected IsHamming15 in
    elim (cases_eq k i) [
      | inl same ↦
          subst (λ (j : ℕ). P (row before j) (row after j)) (sym same)
          (subst (λ (x : List Bool). P x (row after i)) (row_same now before i (λ c b. kept i c below b (omega arith))) new)
      | inr apart ↦
          let low : k < i = omega arith in
          subst (P (row before k)) (sym (row_same after now k (λ c b. others k c (omega arith) b apart))) (done k low)
    ]

-- Two bits that can't differ are equal.
same_bit : (a b : Bool) → ((a ≡ b → ⊥) → ⊥) → a ≡ b
same_bit true true h = refl
same_bit false false h = refl
same_bit true false h = absurd (h (λ e. cc))
same_bit false true h = absurd (h (λ e. cc))

-- Two corrections of the same bits are equal: where they differed, no word would be within one bit, and
-- both would be the bits as they were.
pub one_correction : (P : List Bool → Type 0) (old a b : List Bool) → length a ≡ length b → IsCorrected P old a
    → IsCorrected P old b → a ≡ b
one_correction P old a b long first second =
    ext_get_or false a b long
    (λ k h. same_bit (get_or a k false) (get_or b k false)
    (λ apart.
    let differ : a ≡ b → ⊥ = λ e. apart (ap (λ l. get_or l k false) e) in
    let beyond : (w : List Bool) → P w → 1 < distance w old =
    λ w is. elim (cases_lt 1 (distance w old)) [
      | inl far ↦ far
      | inr near ↦ absurd (differ (first.word w is near ∙ sym (second.word w is near)))
    ] in
    differ (first.same beyond ∙ sym (second.same beyond))))

-- Columns that are corrected in a table with the cells that were received.
pub from_received : (bits table middle : List Bool) → ((r c : ℕ) → r < 13 → c < 15 → cell table r c ≡ cell bits r c)
    → ((c : ℕ) → c < 15 → IsCorrected IsHamming13 (column table c) (column middle c))
    → (c : ℕ) → c < 15 → IsCorrected IsHamming13 (column bits c) (column middle c)
from_received bits table middle cells corrected c h =
    let P : List Bool → Type 0 = λ x. IsCorrected IsHamming13 x (column middle c) in
    subst P (column_same table bits c (λ r l. cells r c l h)) (corrected c h)
