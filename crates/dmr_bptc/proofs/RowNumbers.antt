-- Tables whose rows are numbers: their cells, and what a new row leaves.
use Rattle.std.proofs.Common.{◌≡◌, ℕ, ◌+◌, ◌*◌, ◌/◌, ◌%◌, ◌^◌, ◌<◌, ◌≢◌, Bool, false, suc, List, length, take, drop, sym}
use Rattle.std.proofs.Common.{◌∙◌, ap, arith, get_or, set, inl, inr}
use Rattle.std.specs.List.{All}
use Rattle.std.proofs.lemmas.Bool.{cases_eq}
use Rattle.std.proofs.lemmas.List.{get_or-set_same, get_or-set_other, length-take-le, get_or-take, length-set}
use Rattle.std.proofs.lemmas.List.FromFn.{get_or-map-range_with_len}
use Rattle.dmr_bits.specs.Bits.{bits_of, number_of}
use Rattle.dmr_bits.proofs.Lists.{length-bits_of, bits_of_spelled}
use Rattle.dmr_bptc.specs.ProductWord.{place, cell, row}
use Rattle.dmr_bptc.specs.Rows.{row_bit, numbered_bit, laid}
use Rattle.dmr_bptc.proofs.Cells.{unplace, place_below, row_from}

-- what is sent at a place is the bit of the cell whose number is 13 times the place, modulo 196
pub sent_at : (rows : List ℕ) (p : ℕ) → p < 196 → get_or (laid rows) p false ≡ numbered_bit rows (13 * p % 196)
unfolding laid
sent_at rows p h = get_or-map-range_with_len (λ p. numbered_bit rows (13 * p % 196)) 0 196 p p false h (omega arith)

numbered_cell : (rows : List ℕ) (r c : ℕ) → c < 15 → numbered_bit rows (suc (15 * r + c)) ≡ row_bit rows r c
numbered_cell rows r c h =
    let line : (15 * r + c) / 15 ≡ r = omega arith in
    let across : (15 * r + c) % 15 ≡ c = omega arith in
    ap (λ n. row_bit rows n ((15 * r + c) % 15)) line ∙ ap (row_bit rows r) across

-- a cell of the bits that are sent is the bit of its row and column
pub cell_laid : (rows : List ℕ) (r c : ℕ) → r < 13 → c < 15 → cell (laid rows) r c ≡ row_bit rows r c
cell_laid rows r c h k =
    let next : 1 + 15 * r + c ≡ suc (15 * r + c) = omega arith in
    sent_at rows (place r c) (place_below r c)
    ∙ ap (numbered_bit rows) (unplace (1 + 15 * r + c) (omega arith) ∙ next)
    ∙ numbered_cell rows r c k

-- the row of a number
pub row_laid : (rows : List ℕ) (r : ℕ) → r < 13 → bits_of 15 (get_or rows r 0) ≡ row (laid rows) r
row_laid rows r h = row_from (laid rows) (bits_of 15 (get_or rows r 0)) r (length-bits_of 15 (get_or rows r 0))
    (λ c k. sym (cell_laid rows r c h k))

-- setting one row leaves the cells of all other rows as they were
pub cell_kept : (rows : List ℕ) (i r c n : ℕ) → r < 13 → c < 15 → r ≢ i → cell (laid (set rows i n)) r c ≡ cell (laid rows) r c
cell_kept rows i r c n h k apart =
    cell_laid (set rows i n) r c h k
    ∙ ap (λ m. get_or (bits_of 15 m) c false) (get_or-set_other rows i r n 0 apart)
    ∙ sym (cell_laid rows r c h k)

-- one row more is gathered
pub row_bits_more : (bits : List Bool) (rows : List ℕ) (i n : ℕ) → i < length rows
    → ((r c : ℕ) → r < i → c < 15 → row_bit rows r c ≡ cell bits r c)
    → ((c : ℕ) → c < 15 → get_or (bits_of 15 n) c false ≡ cell bits i c) → (r c : ℕ) → r < i + 1 → c < 15
    → row_bit (set rows i n) r c ≡ cell bits r c
row_bits_more bits rows i n below done new r c h k =
    elim (cases_eq r i) [
      | inl same ↦ ap (λ j. row_bit (set rows i n) j c) same
          ∙ ap (λ m. get_or (bits_of 15 m) c false) (get_or-set_same rows i n 0 below) ∙ new c k
          ∙ ap (λ j. cell bits j c) (sym same)
      | inr apart ↦ ap (λ m. get_or (bits_of 15 m) c false) (get_or-set_other rows i r n 0 apart) ∙ done r c (omega arith) k
    ]

-- a word is spelled again by its number
pub spelled_at : (word : List Bool) (n c : ℕ) → length word ≡ 15 → n ≡ number_of (take 15 (drop 0 word)) → c < 15
    → get_or (bits_of 15 n) c false ≡ get_or word c false
spelled_at word n c e is h =
    let whole : length (take 15 word) ≡ 15 = length-take-le 15 word (omega arith) in
    ap (λ m. get_or (bits_of 15 m) c false) is
    ∙ ap (λ l. get_or l c false) (bits_of_spelled 15 (take 15 word) whole)
    ∙ get_or-take 15 word c false h

-- a new row is small too
pub small_more : (rows : List ℕ) (i n : ℕ) → n < 2 ^ 15 → All (λ row. row < 2 ^ 15) rows → All (λ row. row < 2 ^ 15) (set rows i n)
small_more rows i n fits small k d h =
    let inside : k < length rows = omega (arith, h, length-set rows i n) in
    elim (cases_eq k i) [
      | inl same ↦
          let below : i < length rows = omega (arith, inside, same) in
          rw (same, get_or-set_same rows i n d below) fits
      | inr apart ↦ rw (get_or-set_other rows i k n d apart) (small k d inside)
    ]
