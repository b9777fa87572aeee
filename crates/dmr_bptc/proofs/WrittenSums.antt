-- Sums of written forms are written forms of the sums.
use Rattle.std.proofs.Common.{◌≡◌, ℕ, ◌+◌, ◌/◌, ◌%◌, Bool, false, List, length, sym, ◌∙◌, ap, subst, arith, get_or, refl}
use Rattle.dmr_bits.specs.Bits.{xor, xor_bits}
use Rattle.dmr_bits.proofs.Lists.{length-xor_bits, get_or-xor_bits}
use Rattle.dmr_codes.specs.Words.{IsWord-xor}
use Rattle.dmr_codes.specs.Seven.{IsHamming13, IsHamming15, hamming13_columns, hamming15_columns}
use Rattle.dmr_bptc.specs.ProductWord.{place, cell, row, column, information, IsProductWord, IsWritten}
use Rattle.dmr_bptc.proofs.Cells.{length-row, length-column, get_or-row, get_or-column, row_from, column_from, place_below}
use Rattle.dmr_bptc.proofs.Cells.{information_from}
use Rattle.dmr_bptc.proofs.Existing.{length-information}
use Rattle.dmr_bptc.proofs.Written.{information_at}

-- a cell of a sum is the sum of the cells
cell-xor : (a b : List Bool) (r c : ℕ) → length a ≡ 196 → length b ≡ 196
    → cell (xor_bits a b) r c ≡ xor (cell a r c) (cell b r c)
cell-xor a b r c e f =
    get_or-xor_bits a b (place r c) (omega (arith, place_below r c)) (omega (arith, place_below r c))

row-xor : (a b : List Bool) (r : ℕ) → length a ≡ 196 → length b ≡ 196 → xor_bits (row a r) (row b r) ≡ row (xor_bits a b) r
row-xor a b r e f =
    let u : length (row a r) ≡ 15 = length-row a r in
    let v : length (row b r) ≡ 15 = length-row b r in
    row_from (xor_bits a b) (xor_bits (row a r) (row b r)) r (length-xor_bits (row a r) (row b r) (u ∙ sym v) ∙ u)
    (λ c h.
    let agree : get_or (row a r) c false ≡ cell a r c = get_or-row a r c h in
    let other : get_or (row b r) c false ≡ cell b r c = get_or-row b r c h in
    get_or-xor_bits (row a r) (row b r) c (omega arith) (omega arith)
    ∙ ap (λ x. xor x (get_or (row b r) c false)) agree
    ∙ ap (xor (cell a r c)) other
    ∙ sym (cell-xor a b r c e f))

column-xor : (a b : List Bool) (c : ℕ) → length a ≡ 196 → length b ≡ 196
    → xor_bits (column a c) (column b c) ≡ column (xor_bits a b) c
column-xor a b c e f =
    let u : length (column a c) ≡ 13 = length-column a c in
    let v : length (column b c) ≡ 13 = length-column b c in
    column_from (xor_bits a b) (xor_bits (column a c) (column b c)) c (length-xor_bits (column a c) (column b c) (u ∙ sym v) ∙ u)
    (λ r h.
    let agree : get_or (column a c) r false ≡ cell a r c = get_or-column a r c h in
    let other : get_or (column b c) r false ≡ cell b r c = get_or-column b r c h in
    get_or-xor_bits (column a c) (column b c) r (omega arith) (omega arith)
    ∙ ap (λ x. xor x (get_or (column b c) r false)) agree
    ∙ ap (xor (cell a r c)) other
    ∙ sym (cell-xor a b r c e f))

both_clear : (a b : Bool) → a ≡ false → b ≡ false → xor a b ≡ false
both_clear a b e f = rw (e, f) refl

-- the sum of two product words is one
pub product-xor : (a b : List Bool) → length a ≡ 196 → length b ≡ 196 → IsProductWord a → IsProductWord b
    → IsProductWord (xor_bits a b)
product-xor a b e f u v =
    record {
      rows = λ r h. subst IsHamming15 (row-xor a b r e f)
          (IsWord-xor hamming15_columns 4 (row a r) (row b r) (u.rows r h) (v.rows r h));
      columns = λ c h. subst IsHamming13 (column-xor a b c e f)
          (IsWord-xor hamming13_columns 4 (column a c) (column b c) (u.columns c h) (v.columns c h));
    }

-- and it holds the sum of what they hold
pub information-xor : (m n a b : List Bool) → length a ≡ 196 → length b ≡ 196 → information a ≡ m → information b ≡ n
    → information (xor_bits a b) ≡ xor_bits m n
information-xor m n a b e f u v =
    let p : length m ≡ 96 = ap length (sym u) ∙ length-information a in
    let q : length n ≡ 96 = ap length (sym v) ∙ length-information b in
    sym (information_from (xor_bits a b) (xor_bits m n) (length-xor_bits m n (p ∙ sym q) ∙ p)
    (λ k h.
    get_or-xor_bits m n k (omega arith) (omega arith)
    ∙ ap (λ x. xor x (get_or n k false)) (ap (λ l. get_or l k false) (sym u) ∙ information_at a k h)
    ∙ ap (xor (cell a ((k + 3) / 11) ((k + 3) % 11))) (ap (λ l. get_or l k false) (sym v) ∙ information_at b k h)
    ∙ sym (cell-xor a b ((k + 3) / 11) ((k + 3) % 11) e f)))

-- the sum of two written forms is that of the sum
pub written-xor : (m n a b : List Bool) → IsWritten m a → IsWritten n b → IsWritten (xor_bits m n) (xor_bits a b)
written-xor m n a b u v =
    let e : length a ≡ 196 = u.long in
    let f : length b ≡ 196 = v.long in
    record {
      long = length-xor_bits a b (e ∙ sym f) ∙ e;
      word = product-xor a b e f u.word v.word;
      holds = information-xor m n a b e f u.holds v.holds;
      reserved = record {
        cells = λ c h. cell-xor a b 0 c e f ∙ both_clear (cell a 0 c) (cell b 0 c) (u.reserved.cells c h) (v.reserved.cells c h);
        first = get_or-xor_bits a b 0 (omega arith) (omega arith)
            ∙ both_clear (get_or a 0 false) (get_or b 0 false) u.reserved.first v.reserved.first;
      };
    }
