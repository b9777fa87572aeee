-- Sums of the bits of a column.
use Rattle.std.proofs.Common.{◌≡◌, ℕ, zero, suc, ◌+◌, ◌%◌, ◌<◌, Bool, true, false, List, [], ◌∷◌, length, refl, sym, ◌∙◌, ap, arith}
use Rattle.std.proofs.Common.{cond, get_or}
use Rattle.dmr_bits.specs.Bits.{xor, xor_bits, weight}
use Rattle.dmr_bits.proofs.Lists.{weight-cons, get_or-xor_bits}
use Rattle.dmr_embedded.specs.EmbeddedWord.{IsEven, cell, row, column}
use Rattle.dmr_embedded.proofs.Cells.{get_or-row}
use Rattle.dmr_embedded.proofs.Even.{same_bits}

-- the sum of the first bits of a function
abbrev pub summed : (ℕ → Bool) → ℕ → Bool
summed f zero = false
summed f (suc m) = xor (summed f m) (f m)

-- functions that agree below a number have the same sum below it
pub summed_same : (f g : ℕ → Bool) (m : ℕ) → ((k : ℕ) → k < m → f k ≡ g k) → summed f m ≡ summed g m
summed_same f g zero h = refl
summed_same f g (suc m) h =
    ap (λ b. xor b (f m)) (summed_same f g m (λ k l. h k (omega arith))) ∙ ap (xor (summed g m)) (h m (omega arith))

-- one bit more is added
pub summed_more : (f : ℕ → Bool) (m : ℕ) → summed f (m + 1) ≡ xor (summed f m) (f m)
summed_more f m = let next : m + 1 ≡ suc m = omega arith in ap (summed f) next

abbrev ones : (ℕ → Bool) → ℕ → ℕ
ones f zero = 0
ones f (suc m) = ones f m + cond (f m) 1 0

one_more : (a b : Bool) (n : ℕ) → ◌≡◌ {A = ℕ} (n % 2) (cond a 1 0) → ◌≡◌ {A = ℕ} ((n + cond b 1 0) % 2) (cond (xor a b) 1 0)
one_more true true n e = omega arith
one_more true false n e = omega arith
one_more false true n e = omega arith
one_more false false n e = omega arith

ones_summed : (f : ℕ → Bool) (m : ℕ) → ◌≡◌ {A = ℕ} (ones f m % 2) (cond (summed f m) 1 0)
ones_summed f zero = refl
ones_summed f (suc m) = one_more (summed f m) (f m) (ones f m) (ones_summed f m)

column_is : (bits : List Bool) (c : ℕ) → column bits c
    ≡ cell bits 0 c ∷ cell bits 1 c ∷ cell bits 2 c ∷ cell bits 3 c ∷ cell bits 4 c ∷ cell bits 5 c ∷ cell bits 6 c
    ∷ cell bits 7 c ∷ []
unfolding column
column_is bits c = refl

weight_eight : (f : ℕ → Bool) → weight (f 0 ∷ f 1 ∷ f 2 ∷ f 3 ∷ f 4 ∷ f 5 ∷ f 6 ∷ f 7 ∷ []) ≡ ones f 8
weight_eight f =
    omega (
      arith,
      weight-cons (f 0) (f 1 ∷ f 2 ∷ f 3 ∷ f 4 ∷ f 5 ∷ f 6 ∷ f 7 ∷ []),
      weight-cons (f 1) (f 2 ∷ f 3 ∷ f 4 ∷ f 5 ∷ f 6 ∷ f 7 ∷ []),
      weight-cons (f 2) (f 3 ∷ f 4 ∷ f 5 ∷ f 6 ∷ f 7 ∷ []),
      weight-cons (f 3) (f 4 ∷ f 5 ∷ f 6 ∷ f 7 ∷ []),
      weight-cons (f 4) (f 5 ∷ f 6 ∷ f 7 ∷ []),
      weight-cons (f 5) (f 6 ∷ f 7 ∷ []),
      weight-cons (f 6) (f 7 ∷ []),
      weight-cons (f 7) [],
    )

-- a column whose last bit is the sum of the others is even
pub even_column : (bits : List Bool) (c : ℕ) → cell bits 7 c ≡ summed (λ r. cell bits r c) 7 → IsEven (column bits c)
even_column bits c last =
    let f : ℕ → Bool = λ r. cell bits r c in
    ap (λ n. n % 2) (ap weight (column_is bits c) ∙ weight_eight f)
    ∙ ones_summed f 8
    ∙ ap {B = ℕ} (λ b. cond (xor (summed f 7) b) 1 0) last
    ∙ same_bits (summed f 7)

-- the sum of the words of one row more
pub sums_more : (before after sum word : List Bool) (i : ℕ) → i < 7 → length sum ≡ 16 → length word ≡ 16 → row after i ≡ word
    → ((r c : ℕ) → r < 8 → c < 16 → (r ≡ i → ⊥) → cell after r c ≡ cell before r c)
    → ((c : ℕ) → c < 16 → get_or sum c false ≡ summed (λ r. cell before r c) i) → (c : ℕ) → c < 16
    → get_or (xor_bits sum word) c false ≡ summed (λ r. cell after r c) (i + 1)
sums_more before after sum word i below long wide written kept sums c h =
    get_or-xor_bits sum word c (omega arith) (omega arith)
    ∙ ap (λ b. xor b (get_or word c false)) (sums c h
    ∙ summed_same (λ r. cell before r c) (λ r. cell after r c) i
    (λ k l. sym (kept k c (omega arith) h (λ e. absurd (omega arith)))))
    ∙ ap (xor (summed (λ r. cell after r c) i)) (sym (ap (λ l. get_or l c false) written) ∙ get_or-row after i c h)
    ∙ sym (summed_more (λ r. cell after r c) i)
