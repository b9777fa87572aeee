-- The checks that fail in a column, from the sums of rows, and columns that are words, or are corrected.
use Rattle.std.proofs.Common.{◌≡◌, ℕ, zero, suc, ◌+◌, ◌-◌, ◌*◌, ◌/◌, ◌%◌, ◌^◌, ◌==◌, ◌<◌, ◌||◌, Bool, false, List, length}
use Rattle.std.proofs.Common.{lit<, refl, sym, ◌∙◌, ap, arith, cond, get_or}
use Rattle.std.specs.Prelude.{bit_or}
use Rattle.std.specs.List.{All}
use Rattle.std.proofs.lemmas.List.{length-map, get_or-map}
use Rattle.std.proofs.lemmas.Nat.{or_lt}
use Rattle.std.proofs.lemmas.Nat.Bits.{bit_at_or, bit_at-zero, same_from_bits_below}
use Rattle.dmr_bits.specs.Bits.{xor, xor_bits}
use Rattle.dmr_bits.proofs.Lists.{get_or-bits_of, get_or-xor_bits, length-xor_bits}
use Rattle.dmr_codes.specs.Code.{ones_over}
use Rattle.dmr_codes.specs.Words.{one_within}
use Rattle.dmr_codes.specs.LeastColumns.{least_three}
use Rattle.dmr_codes.specs.Seven.{IsHamming13, IsHamming15, hamming13_columns, hamming13_shaped, hamming15_columns}
use Rattle.dmr_codes.specs.Seven.{hamming15_shaped}
use Rattle.dmr_bptc.specs.ProductWord.{column}
use Rattle.dmr_bptc.specs.Rows.{laid, row_bit}
use Rattle.dmr_bptc.specs.Sums.{sum_rows, fails, failing_in, AreFailing}
use Rattle.dmr_bptc.specs.Decoding.{IsCorrected}
use Rattle.dmr_bptc.proofs.Cells.{length-column, column_from, get_or-column}
use Rattle.dmr_bptc.proofs.Near.{no_distance}
use Rattle.dmr_bptc.proofs.RowNumbers.{cell_laid}
use Rattle.dmr_bptc.proofs.ColumnSums.{bit_of, column_tells}
use Rattle.dmr_bptc.proofs.Turning.{places_of}

bit_value : (q : ℕ) → q < 2 → cond (q == 1) 1 0 ≡ q
bit_value zero h = refl
bit_value (suc zero) h = refl
bit_value (suc (suc q)) h = absurd (omega arith)

-- a bit of a sum tells whether the check fails
fails_tied : (rows failing : List ℕ) (j c : ℕ) → length rows ≡ 13 → c < 15 → get_or failing j 0 ≡ sum_rows j hamming13_columns rows
    → fails failing j c ≡ ones_over j hamming13_columns (column (laid rows) c) % 2
fails_tied rows failing j c long h e =
    let sum : ℕ = sum_rows j hamming13_columns rows in
    ap {B = ℕ} (λ s. s / 2 ^ (14 - c) % 2) e
    ∙ sym (bit_value (sum / 2 ^ (14 - c) % 2) (omega arith))
    ∙ ap {B = ℕ} (λ b. cond b 1 0) (sym (get_or-bits_of 15 sum c h))
    ∙ column_tells rows j c long h

-- the sums tell which checks fail in a column
pub failing_column : (rows failing : List ℕ) (c : ℕ) → length rows ≡ 13 → c < 15
    → ((j : ℕ) → j < 4 → get_or failing j 0 ≡ sum_rows j hamming13_columns rows)
    → AreFailing hamming13_columns (column (laid rows) c) (failing_in failing c)
failing_column rows failing c long h sums = record { small = omega arith; tied = each }
  where
    is : (j : ℕ) → j < 4 → fails failing j c ≡ ones_over j hamming13_columns (column (laid rows) c) % 2
    is j l = fails_tied rows failing j c long h (sums j l)

    each : (j : ℕ) → j < 4 → failing_in failing c / 2 ^ j % 2 ≡ ones_over j hamming13_columns (column (laid rows) c) % 2
    each zero l = omega (arith, is 0 l)
    each (suc zero) l = omega (arith, is 1 l)
    each (suc (suc zero)) l = omega (arith, is 2 l)
    each (suc (suc (suc zero))) l = omega (arith, is 3 l)
    each (suc (suc (suc (suc j)))) l = absurd (omega arith)

-- where no check fails in a column, all sums are zero there
pub none_of : (failing : List ℕ) (c : ℕ)
    → bit_or (bit_or (bit_or (get_or failing 0 0) (get_or failing 1 0)) (get_or failing 2 0)) (get_or failing 3 0) ≡ 0
    → failing_in failing c ≡ 0
none_of failing c e =
    let a : ℕ = get_or failing 0 0 in
    let b : ℕ = get_or failing 1 0 in
    let d : ℕ = get_or failing 2 0 in
    let f : ℕ = get_or failing 3 0 in
    let i : ℕ = 14 - c in
    omega (
      arith,
      bit_at_or a b i,
      bit_at_or (bit_or a b) d i,
      bit_at_or (bit_or (bit_or a b) d) f i,
      bit_at-zero i,
      ap (λ n. n / 2 ^ i % 2) e,
    )

-- where no check fails in any column, none of the four numbers of failing columns has a bit set
pub none_from : (failing : List ℕ) → length failing ≡ 4 → All (λ columns. columns < 2 ^ 15) failing
    → ((c : ℕ) → c < 15 → failing_in failing c ≡ 0)
    → bit_or (bit_or (bit_or (get_or failing 0 0) (get_or failing 1 0)) (get_or failing 2 0)) (get_or failing 3 0) ≡ 0
none_from failing long fits none =
    let a : ℕ = get_or failing 0 0 in
    let b : ℕ = get_or failing 1 0 in
    let d : ℕ = get_or failing 2 0 in
    let f : ℕ = get_or failing 3 0 in
    let all : ℕ = bit_or (bit_or (bit_or a b) d) f in
    let small : all < 2 ^ 15 =
    or_lt 15 (bit_or (bit_or a b) d) f
    (or_lt 15 (bit_or a b) d (or_lt 15 a b (fits 0 0 (omega arith)) (fits 1 0 (omega arith))) (fits 2 0 (omega arith)))
    (fits 3 0 (omega arith)) in
    same_from_bits_below 15 all 0 small (omega arith)
    (λ i h.
    let back : 14 - (14 - i) ≡ i = omega arith in
    let clear : failing_in failing (14 - i) ≡ 0 = none (14 - i) (omega arith) in
    let there = ap (λ k. get_or failing 0 0 / 2 ^ k % 2 + 2 * (get_or failing 1 0 / 2 ^ k % 2)
    + 4 * (get_or failing 2 0 / 2 ^ k % 2) + 8 * (get_or failing 3 0 / 2 ^ k % 2)) back in
    omega (
      arith,
      clear,
      there,
      bit_at_or a b i,
      bit_at_or (bit_or a b) d i,
      bit_at_or (bit_or (bit_or a b) d) f i,
      bit_at-zero i,
    ))

-- what is turned in the rows is turned in a column
pub turned_cells : (before after : List ℕ) (c checks : ℕ) → c < 15
    → ((r : ℕ) → r < 13 → row_bit after r c ≡ xor (row_bit before r c) (checks == get_or hamming13_columns r 0))
    → column (laid after) c ≡ xor_bits (column (laid before) c) (places_of hamming13_columns checks)
turned_cells before after c checks h turned =
    let old : List Bool = column (laid before) c in
    let turn : List Bool = places_of hamming13_columns checks in
    let long : length old ≡ 13 = length-column (laid before) c in
    let wide : length turn ≡ 13 = length-map hamming13_columns (λ k. checks == k) in
    sym (column_from (laid after) (xor_bits old turn) c (length-xor_bits old turn (long ∙ sym wide) ∙ long)
    (λ r l. get_or-xor_bits old turn r (omega arith) (omega arith)
    ∙ ap (λ b. xor b (get_or turn r false)) (get_or-column (laid before) r c l ∙ cell_laid before r c l h)
    ∙ ap (xor (row_bit before r c)) (get_or-map (λ k. checks == k) hamming13_columns r 0 false (omega arith))
    ∙ sym (turned r l) ∙ sym (cell_laid after r c l h)))

-- no column is left whose failing checks are those of no row
pub none_left : (c a b : ℕ) (p q : Bool) → c < 15 → bit_or a b ≡ 0 → bit_of c a ≡ p → bit_of c b ≡ q → p || q ≡ false
none_left c a b p q h e f g =
    let i : ℕ = 14 - c in
    let zero_bit = ap (λ n. n / 2 ^ i % 2) e in
    let left : a / 2 ^ i % 2 ≡ 0 = omega (arith, bit_at_or a b i, bit_at-zero i, zero_bit) in
    let right : b / 2 ^ i % 2 ≡ 0 = omega (arith, bit_at_or a b i, bit_at-zero i, zero_bit) in
    let first : p ≡ false = sym f ∙ get_or-bits_of 15 a c h ∙ ap {B = Bool} (λ n. n == 1) left in
    let second : q ≡ false = sym g ∙ get_or-bits_of 15 b c h ∙ ap {B = Bool} (λ n. n == 1) right in
    rw (first, second) refl

-- a column that is a word is corrected to itself
pub kept_word : (old : List Bool) → IsHamming13 old → IsCorrected IsHamming13 old old
kept_word old is = record {
  word = λ w word near. one_within hamming13_columns 4 3 1 old w old (least_three 13 9 hamming13_columns hamming13_shaped refl refl)
      (lit< tt) is.long is word (omega (arith, no_distance old)) near;
  same = λ none. refl;
}

-- a row that is a word is corrected to itself
pub kept_row : (old : List Bool) → IsHamming15 old → IsCorrected IsHamming15 old old
kept_row old is = record {
  word = λ w word near. one_within hamming15_columns 4 3 1 old w old
      (least_three 15 11 hamming15_columns hamming15_shaped refl refl)
      (lit< tt) is.long is word (omega (arith, no_distance old)) near;
  same = λ none. refl;
}
