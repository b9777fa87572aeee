-- Tables of a code's words, and of what is wrong with the information.
use Rattle.std.specs.Prelude.{ℕ, ◌+◌, ◌-◌, ◌*◌, ◌/◌, ◌%◌, ◌^◌, ◌==◌, ◌&&◌, Bool, cond, zero, suc, List, [], ◌∷◌, get_or, bit_xor}
use Rattle.std.specs.List.{list_all, range_with_len}
use Rattle.dmr_bits.specs.Bits.{bits_of}

-- the checks that fail, as the bits of a number
abbrev pub failed_checks : List ℕ → List Bool → ℕ
failed_checks [] word = 0
failed_checks (c ∷ cs) [] = 0
failed_checks (c ∷ cs) (b ∷ word) = cond b (bit_xor c (failed_checks cs word)) (failed_checks cs word)

-- so many words, each of the information that is its number times a step
abbrev pub are_words_each : (n k step count : ℕ) (columns words : List ℕ) → Bool
are_words_each n k step count columns words =
    list_all
    (λ i. (get_or words i 0 / 2 ^ (n - k) == step * i) && (failed_checks columns (bits_of n (get_or words i 0)) == 0))
    (range_with_len 0 count)

-- for each information its word
abbrev pub are_words : (n k : ℕ) (columns words : List ℕ) → Bool
are_words n k columns words = are_words_each n k 1 (2 ^ k) columns words

-- what is left of n bits once the word with the same information is taken off
abbrev pub left_of : (n k : ℕ) (words : List ℕ) (number : ℕ) → ℕ
left_of n k words number = bit_xor number (get_or words (number / 2 ^ (n - k)) 0) % 2 ^ (n - k)

-- each n bits that begin as `front` does, with at most so many ones at the last `places`: the table has their information
abbrev pub tells : (n k : ℕ) (words wrong : List ℕ) (places front ones : ℕ) → Bool
tells n k words wrong zero front ones = (get_or wrong (left_of n k words front) 0 == front / 2 ^ (n - k))
tells n k words wrong (suc places) front zero = (get_or wrong (left_of n k words front) 0 == front / 2 ^ (n - k))
tells n k words wrong (suc places) front (suc ones) =
    tells n k words wrong places front (suc ones) && tells n k words wrong places (front + 2 ^ places) ones
