-- The checks of all columns at once, by sums of rows.
use Rattle.std.proofs.Common.{◌≡◌, ℕ, zero, suc, ◌+◌, ◌-◌, ◌/◌, ◌%◌, ◌^◌, ◌==◌, ◌<◌, Bool, true, false, List, [], ◌∷◌, length, map}
use Rattle.std.proofs.Common.{drop, refl, sym, ◌∙◌, ap, arith, cond, get_or, replicate}
use Rattle.std.specs.Prelude.{bit_xor}
use Rattle.std.proofs.lemmas.Bool.{eqb-true, eqb-false}
use Rattle.std.proofs.lemmas.List.{get_or-replicate, drop_more, length-map}
use Rattle.std.proofs.lemmas.List.{get_or-map}
use Rattle.dmr_bits.specs.Bits.{bits_of, xor}
use Rattle.dmr_bits.proofs.Lists.{get_or-xor_bits, length-bits_of}
use Rattle.dmr_bits.proofs.Sums.{bits_of_xor}
use Rattle.dmr_codes.specs.Code.{ones_over}
use Rattle.dmr_codes.specs.Seven.{hamming13_columns}
use Rattle.dmr_bptc.specs.ProductWord.{column}
use Rattle.dmr_bptc.specs.Rows.{laid}
use Rattle.dmr_bptc.specs.Sums.{sum_rows}
use Rattle.dmr_bptc.proofs.Cells.{column_from}
use Rattle.dmr_bptc.proofs.RowNumbers.{cell_laid}

-- the bit of a row at a column
abbrev pub bit_of : ℕ → ℕ → Bool
bit_of c row = get_or (bits_of 15 row) c false

-- in each column, the bit of the sum of two rows is the sum of their bits
pub bit_of_xor : (c a b : ℕ) → c < 15 → bit_of c (bit_xor a b) ≡ xor (bit_of c a) (bit_of c b)
bit_of_xor c a b h =
    ap (λ l. get_or l c false) (bits_of_xor 15 a b)
    ∙ get_or-xor_bits (bits_of 15 a) (bits_of 15 b) c (omega (arith, length-bits_of 15 a)) (omega (arith, length-bits_of 15 b))

added_bits : (s b : Bool) (q o : ℕ) → q ≡ 1 → ◌≡◌ {A = ℕ} (cond s 1 0) (o % 2)
    → ◌≡◌ {A = ℕ} (cond (xor s b) 1 0) ((cond b q 0 + o) % 2)
added_bits true true q o one e = omega arith
added_bits true false q o one e = omega arith
added_bits false true q o one e = omega arith
added_bits false false q o one e = omega arith

kept_bits : (s b : Bool) (q o : ℕ) → q ≡ 0 → ◌≡◌ {A = ℕ} (cond s 1 0) (o % 2) → ◌≡◌ {A = ℕ} (cond s 1 0) ((cond b q 0 + o) % 2)
kept_bits s true q o none e = omega arith
kept_bits s false q o none e = omega arith

no_bits : (c : ℕ) → c < 15 → bit_of c 0 ≡ false
no_bits c h = ap (λ l. get_or l c false) zeros ∙ get_or-replicate 15 c false false h
  where
    zeros : bits_of 15 0 ≡ replicate 15 false
    zeros = refl

one_more : (t : Bool) (c q o row sum : ℕ) → (q == 1) ≡ t → q < 2 → c < 15 → ◌≡◌ {A = ℕ} (cond (bit_of c sum) 1 0) (o % 2)
    → ◌≡◌ {A = ℕ} (cond (bit_of c (cond t (bit_xor sum row) sum)) 1 0) ((cond (bit_of c row) q 0 + o) % 2)
one_more true c q o row sum e small h rest =
    let one : q ≡ 1 = eqb-true q 1 e in
    ap (λ b. cond b 1 0) (bit_of_xor c sum row h) ∙ added_bits (bit_of c sum) (bit_of c row) q o one rest
one_more false c q o row sum e small h rest =
    let none : q ≡ 0 = (let no = eqb-false q 1 e in omega arith) in
    kept_bits (bit_of c sum) (bit_of c row) q o none rest

-- A bit of the sum tells the check of its column.
pub sum_tells : (j c : ℕ) (ws rows : List ℕ) → length ws ≡ length rows → c < 15
    → ◌≡◌ {A = ℕ} (cond (bit_of c (sum_rows j ws rows)) 1 0) (ones_over j ws (map (bit_of c) rows) % 2)
sum_tells j c [] rows e h = rw (no_bits c h) refl
sum_tells j c (w ∷ ws) [] e h = absurd (omega arith)
sum_tells j c (w ∷ ws) (row ∷ rows) e h =
    one_more (w / 2 ^ j % 2 == 1) c (w / 2 ^ j % 2) (ones_over j ws (map (bit_of c) rows)) row (sum_rows j ws rows) refl
    (omega arith) h (sum_tells j c ws rows (omega arith) h)

not_picked : (t : Bool) (n x y : ℕ) → (n == 1) ≡ t → (n ≡ 1 → ⊥) → ◌≡◌ {A = ℕ} (cond t x y) y
not_picked true n x y e never = absurd (never (eqb-true n 1 e))
not_picked false n x y e never = refl

-- the rows from the last on: one more
sum_next : (j a : ℕ) (ws rows : List ℕ) → a < 13 → length ws ≡ 13 → length rows ≡ 13
    → ◌≡◌ {A = ℕ} (sum_rows j (drop (13 - (a + 1)) ws) (drop (13 - (a + 1)) rows))
    (cond (get_or ws (12 - a) 0 / 2 ^ j % 2 == 1)
    (bit_xor (sum_rows j (drop (13 - a) ws) (drop (13 - a) rows)) (get_or rows (12 - a) 0))
    (sum_rows j (drop (13 - a) ws) (drop (13 - a) rows)))
sum_next j a ws rows h e f =
    let i : ℕ = 12 - a in
    let here : 13 - (a + 1) ≡ i = omega arith in
    let next : i + 1 ≡ 13 - a = omega arith in
    ap (λ n. sum_rows j (drop n ws) (drop n rows)) here
    ∙ ap (λ l. sum_rows j l (drop i rows)) (drop_more ws i 0 (omega (arith, e)))
    ∙ ap (λ l. sum_rows j (get_or ws i 0 ∷ drop (i + 1) ws) l) (drop_more rows i 0 (omega (arith, f)))
    ∙ ap (λ n. cond (get_or ws i 0 / 2 ^ j % 2 == 1) (bit_xor (sum_rows j (drop n ws) (drop n rows)) (get_or rows i 0))
    (sum_rows j (drop n ws) (drop n rows))) next

-- one row more is added to the sum of the last rows, where the row takes part in the check
pub sum_added : (j a sum : ℕ) (ws rows : List ℕ) → a < 13 → length ws ≡ 13 → length rows ≡ 13
    → sum ≡ sum_rows j (drop (13 - a) ws) (drop (13 - a) rows) → get_or ws (12 - a) 0 / 2 ^ j % 2 ≡ 1
    → bit_xor sum (get_or rows (12 - a) 0) ≡ sum_rows j (drop (13 - (a + 1)) ws) (drop (13 - (a + 1)) rows)
sum_added j a sum ws rows h e f is one =
    let S : ℕ = sum_rows j (drop (13 - a) ws) (drop (13 - a) rows) in
    ap (λ s. bit_xor s (get_or rows (12 - a) 0)) is
    ∙ sym (sum_next j a ws rows h e f ∙ ap (λ q. cond (q == 1) (bit_xor S (get_or rows (12 - a) 0)) S) one)

-- the sum of the last rows is that of one row more too, where the row takes no part in the check
pub sum_kept : (j a sum : ℕ) (ws rows : List ℕ) → a < 13 → length ws ≡ 13 → length rows ≡ 13
    → sum ≡ sum_rows j (drop (13 - a) ws) (drop (13 - a) rows) → (get_or ws (12 - a) 0 / 2 ^ j % 2 ≡ 1 → ⊥)
    → sum ≡ sum_rows j (drop (13 - (a + 1)) ws) (drop (13 - (a + 1)) rows)
sum_kept j a sum ws rows h e f is never =
    let S : ℕ = sum_rows j (drop (13 - a) ws) (drop (13 - a) rows) in
    is ∙ sym (sum_next j a ws rows h e f
    ∙ not_picked (get_or ws (12 - a) 0 / 2 ^ j % 2 == 1) (get_or ws (12 - a) 0 / 2 ^ j % 2) (bit_xor S (get_or rows (12 - a) 0))
    S refl never)

-- a bit of the sum tells the check of a column of the table
pub column_tells : (rows : List ℕ) (j c : ℕ) → length rows ≡ 13 → c < 15
    → ◌≡◌ {A = ℕ} (cond (bit_of c (sum_rows j hamming13_columns rows)) 1 0)
    (ones_over j hamming13_columns (column (laid rows) c) % 2)
column_tells rows j c e h =
    let is : map (bit_of c) rows ≡ column (laid rows) c =
    column_from (laid rows) (map (bit_of c) rows) c (length-map rows (bit_of c) ∙ e)
    (λ r k. get_or-map (bit_of c) rows r 0 false (omega (arith, e)) ∙ sym (cell_laid rows r c k h)) in
    sum_tells j c hamming13_columns rows (sym e) h ∙ ap {B = ℕ} (λ l. ones_over j hamming13_columns l % 2) is

-- the sums of all checks
pub four_sums : (rows : List ℕ) (a b d e : ℕ) → a ≡ sum_rows 0 hamming13_columns rows → b ≡ sum_rows 1 hamming13_columns rows
    → d ≡ sum_rows 2 hamming13_columns rows → e ≡ sum_rows 3 hamming13_columns rows → (j : ℕ) → j < 4
    → get_or (a ∷ b ∷ d ∷ e ∷ []) j 0 ≡ sum_rows j hamming13_columns rows
four_sums rows a b d e p q r s zero h = p
four_sums rows a b d e p q r s (suc zero) h = q
four_sums rows a b d e p q r s (suc (suc zero)) h = r
four_sums rows a b d e p q r s (suc (suc (suc zero))) h = s
four_sums rows a b d e p q r s (suc (suc (suc (suc j)))) h = absurd (omega arith)
