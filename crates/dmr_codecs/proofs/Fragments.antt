-- Four fragments by the numbers that they spell.
use Rattle.std.proofs.Common.{◌≡◌, ℕ, Bool, List, [], ◌∷◌, length, slice_index_or}
use Rattle.dmr_bits.specs.Bits.{bits_of}
use Rattle.dmr_codecs.specs.Told.{fragments_told}

-- the numbers of four fragments tell these fragments
pub four_told : (four : List (List Bool)) (a b c d : ℕ) (p q r s : List Bool) → length four ≡ 4
    → bits_of 17 a ≡ slice_index_or four 0 p → bits_of 17 b ≡ slice_index_or four 1 q → bits_of 17 c ≡ slice_index_or four 2 r
    → bits_of 17 d ≡ slice_index_or four 3 s → fragments_told (a ∷ b ∷ c ∷ d ∷ []) ≡ four
unfolding fragments_told
four_told [] a b c d p q r s long i j k l = cc
four_told (w ∷ []) a b c d p q r s long i j k l = cc
four_told (w ∷ x ∷ []) a b c d p q r s long i j k l = cc
four_told (w ∷ x ∷ y ∷ []) a b c d p q r s long i j k l = cc
four_told (w ∷ x ∷ y ∷ z ∷ []) a b c d p q r s long i j k l = λ n. i n ∷ j n ∷ k n ∷ l n ∷ []
four_told (w ∷ x ∷ y ∷ z ∷ v ∷ more) a b c d p q r s long i j k l = cc
