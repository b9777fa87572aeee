-- Bits, the numbers that they spell, and bits in front of zeros.
use Rattle.std.proofs.Common.{◌≡◌, ◌+◌, ℕ, Bool, false, List, ◌++◌, length, take, drop, replicate, ap, subst, ◌∙◌}
use Rattle.std.proofs.Math.Seq.{take-append_seam, drop-append_seam}
use Rattle.dmr_bits.specs.Bits.{put_at}
pub use Rattle.dmr_bits.proofs.Lists.{bits_of_field}

front_of : (n : ℕ) (xs ys : List Bool) → length xs ≡ n → take n (xs ++ ys) ≡ xs
front_of n xs ys long = subst (λ k. take k (xs ++ ys) ≡ xs) long (take-append_seam xs ys)

rest_of : (n : ℕ) (xs ys : List Bool) → length xs ≡ n → drop n (xs ++ ys) ≡ ys
rest_of n xs ys long = subst (λ k. drop k (xs ++ ys) ≡ ys) long (drop-append_seam xs ys)

-- 196 bits that are put at the front of 200 zeros stand there,
pub front_of_zeros : (bits zeros all : List Bool) → length bits ≡ 196 → zeros ≡ replicate 200 false → all ≡ put_at zeros 0 bits
    → take 196 all ≡ bits
front_of_zeros bits zeros all long clear put = ap (take 196) put ∙ front_of 196 bits (drop (0 + length bits) zeros) long

-- and behind them four zeros.
pub zeros_behind : (bits zeros all : List Bool) → length bits ≡ 196 → zeros ≡ replicate 200 false → all ≡ put_at zeros 0 bits
    → drop 196 all ≡ replicate 4 false
zeros_behind bits zeros all long clear put =
    ap (drop 196) put ∙ rest_of 196 bits (drop (0 + length bits) zeros) long
    ∙ ap (λ n. drop (0 + n) zeros) long ∙ ap (drop 196) clear
