-- Bits of one number that are bits of another.
use Rattle.std.proofs.Common.{◌≡◌, ℕ, zero, suc, ◌*◌, ◌^◌, ◌<◌, min, bit_and, IsBitSet, sym, ap, ◌∙◌, arith}
use Rattle.std.proofs.lemmas.Nat.{pow_pos}
use Rattle.std.specs.Int.{bit_at}
use Rattle.std.proofs.lemmas.Nat.Bits.{bit_at_and, and_pow, same_from_bits}

bit_at_below : (n k : ℕ) → bit_at n k < 2
bit_at_below n k = omega arith

-- a bit that is one is set
set_where_one : (n k : ℕ) → bit_at n k ≡ 1 → IsBitSet n k
set_where_one n k e clear =
    let term : bit_at n k * 2 ^ k ≡ 0 = sym (and_pow n k) ∙ clear in
    let one : 1 * 2 ^ k ≡ 0 = ap (λ b. b * 2 ^ k) (sym e) ∙ term in
    omega (arith, pow_pos k)

-- a bit that isn't set is zero
clear_where_zero : (n k : ℕ) → bit_at n k ≡ 0 → bit_and n (2 ^ k) ≡ 0
clear_where_zero n k e = and_pow n k ∙ ap (λ b. b * 2 ^ k) e ∙ omega arith

-- all bits of b are bits of a, so the two have those of b in common
pub common_bits : (a b : ℕ) → ((k : ℕ) → IsBitSet b k → IsBitSet a k) → bit_and a b ≡ b
common_bits a b each =
    same_from_bits (bit_and a b) b
    (λ k. bit_at_and a b k ∙ least (bit_at a k) (bit_at b k) (bit_at_below a k) (bit_at_below b k)
    (λ one none. each k (set_where_one b k one) (clear_where_zero a k none)))
  where
    least : (x y : ℕ) → x < 2 → y < 2 → (y ≡ 1 → x ≡ 0 → ⊥) → min x y ≡ y
    least zero zero p q h = omega arith
    least zero (suc y) p q h = absurd (h (omega arith) (omega arith))
    least (suc x) y p q h = omega arith

-- b is what the two have in common, so its bits are bits of a
pub bits_in_common : (a b : ℕ) → bit_and a b ≡ b → (k : ℕ) → IsBitSet b k → IsBitSet a k
bits_in_common a b e k h clear =
    let none : bit_at a k * 2 ^ k ≡ 0 = sym (and_pow a k) ∙ clear in
    let zero_there : bit_at a k ≡ 0 = factor (bit_at a k) (2 ^ k) (pow_pos k) none in
    let least : bit_at b k ≡ min (bit_at a k) (bit_at b k) = ap (λ n. bit_at n k) (sym e) ∙ bit_at_and a b k in
    h (clear_where_zero b k (omega arith))
  where
    factor : (x p : ℕ) → 0 < p → x * p ≡ 0 → x ≡ 0
    factor zero p h e = omega arith
    factor (suc x) p h e = absurd (omega arith)
