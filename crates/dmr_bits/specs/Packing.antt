-- Packed bits are those that are unpacked; and what that stands on, the number that the bits of a number spell.
use Rattle.std.proofs.Common.{◌≡◌, ℕ, ◌+◌, ◌*◌, ◌/◌, ◌%◌, ◌^◌, ◌<◌, ◌≤◌, ◌==◌, Bool, true, false, cond, zero, suc, List, []}
use Rattle.std.proofs.Common.{◌∷◌, ◌++◌, length, take, drop, get_or, fold, refl, sym, ap, ◌∙◌, arith, mod-lt}
use Rattle.std.specs.List.{All}
use Rattle.std.proofs.lemmas.List.{take-append-drop, ext_get_or, drop-drop, take_at, drop_at}
use Rattle.std.proofs.lemmas.List.Concat.{flat_map-cons}
use Rattle.std.proofs.lemmas.List.FromFn.{length-map-range_with_len, get_or-map-range_with_len}
use Rattle.std.proofs.lemmas.Nat.{div-add-mod', shr_below, pow_pos}
use Rattle.std.proofs.lemmas.Nat.Bits.{bit_at_cat_low}
use Rattle.dmr_bits.specs.Bits.{number_of, bits_of}
use Rattle.dmr_bits.specs.Words.{word_bits, bits_of_words, word_at, words_of, IsPacked, unpacked, packed}

-- the bits of a number in a width are as many as the width says
pub length-bits_of : (width n : ℕ) → length (bits_of width n) ≡ width
length-bits_of zero n = refl
length-bits_of (suc width) n = ap suc (length-bits_of width n)

-- two to the power of one more is twice as much
pub pow_suc : (k : ℕ) → 2 ^ suc k ≡ 2 * 2 ^ k
pow_suc k = grind arith

-- bits read on behind a number: it moves up a place for each of them, and the number that they spell is added
pub number_from : (n : ℕ) (xs : List Bool) → fold (λ m b. 2 * m + cond b 1 0) n xs ≡ n * 2 ^ length xs + number_of xs
number_from n [] = omega arith
number_from n (true ∷ xs) =
    rw pow_suc (omega (arith, number_from (2 * n + 1) xs, number_from (2 * 0 + 1) xs))
number_from n (false ∷ xs) =
    rw pow_suc (omega (arith, number_from (2 * n + 0) xs, number_from (2 * 0 + 0) xs))

-- a bit in front of others: where it is a one, it adds two to the power of how many they are to the number that they spell
pub number_of-cons : (x : Bool) (xs : List Bool) → number_of (x ∷ xs) ≡ cond x 1 0 * 2 ^ length xs + number_of xs
number_of-cons x xs = number_from (2 * 0 + cond x 1 0) xs ∙ (let e : 2 * 0 + cond x 1 0 ≡ cond x 1 0 = omega arith in rw e refl)

-- the bits of a number below 2 ^ width do not see what stands above
pub bits_of_above : (width high n k : ℕ) → width ≤ k → bits_of width (high * 2 ^ k + n) ≡ bits_of width n
bits_of_above zero high n k h = refl
bits_of_above (suc width) high n k h =
    let head : (high * 2 ^ k + n) / 2 ^ width % 2 ≡ n / 2 ^ width % 2 = bit_at_cat_low high k n width (omega arith) in
    let tail = bits_of_above width high n k (omega arith) in
    cc

-- ---- a number in a field is read back
-- a number below two is one where its lowest bit is a one, and else zero
pub one_bit : (q : ℕ) → q < 2 → cond (q % 2 == 1) 1 0 ≡ q
one_bit zero h = refl
one_bit (suc zero) h = refl
one_bit (suc (suc q)) h = absurd (omega arith)

-- the bits of a number that fits their width spell that number
pub number_of-bits_of : (width n : ℕ) → n < 2 ^ width → number_of (bits_of width n) ≡ n
number_of-bits_of zero n h = omega arith
number_of-bits_of (suc width) n h =
    let q : ℕ = n / 2 ^ width in
    let r : ℕ = n % 2 ^ width in
    let parts : q * 2 ^ width + r ≡ n = div-add-mod' n (2 ^ width) in
    let below : r < 2 ^ width = mod-lt n (pow_pos width) in
    let wide : n < 2 ^ (1 + width) = (let s : 1 + width ≡ suc width = omega arith in rw s h) in
    let high : q < 2 = shr_below n 1 width wide in
    let low : bits_of width n ≡ bits_of width r = ap (bits_of width) (sym parts) ∙ bits_of_above width q r width (omega arith) in
    number_of-cons (q % 2 == 1) (bits_of width n)
    ∙ rw (length-bits_of, low, number_of-bits_of width r below, one_bit q high) parts

-- a word has 64 bits
pub length-word_bits : (word : ℕ) → length (word_bits word) ≡ 64
unfolding word_bits
length-word_bits word = length-bits_of 64 word

-- the bits of words are those of the first word, and then those of the others
pub bits_of_words-cons : (w : ℕ) (ws : List ℕ) → bits_of_words (w ∷ ws) ≡ word_bits w ++ bits_of_words ws
unfolding bits_of_words
bits_of_words-cons w ws = flat_map-cons word_bits w ws

-- no words have no bits
pub bits_of_words-none : bits_of_words [] ≡ []
unfolding bits_of_words
bits_of_words-none = refl

-- the bits of one word among those of many
pub word_of : (ws : List ℕ) (i : ℕ) → i < length ws → take 64 (drop (64 * i) (bits_of_words ws)) ≡ word_bits (get_or ws i 0)
word_of [] i h = absurd (omega arith)
word_of (w ∷ ws) zero h = ap (take 64) (bits_of_words-cons w ws) ∙ take_at (word_bits w) (bits_of_words ws) 64 (length-word_bits w)
word_of (w ∷ ws) (suc i) h =
    let place : 64 * suc i ≡ 64 + 64 * i = omega arith in
    ap (take 64)
    (ap (λ n. drop n (bits_of_words (w ∷ ws))) place
    ∙ ap (drop (64 + 64 * i)) (bits_of_words-cons w ws)
    ∙ sym (drop-drop (64 * i) 64 (word_bits w ++ bits_of_words ws))
    ∙ ap (drop (64 * i)) (drop_at (word_bits w) (bits_of_words ws) 64 (length-word_bits w)))
    ∙ word_of ws i (omega arith)

-- the 64 bits of a word below 2^64 spell that word
number_of-word_bits : (word : ℕ) → word < 2 ^ 64 → number_of (word_bits word) ≡ word
unfolding word_bits
number_of-word_bits word h = number_of-bits_of 64 word h

-- words below 2^64 are read back from their bits
pub words_of-bits : (ws : List ℕ) → All (λ word. word < 2 ^ 64) ws → words_of (length ws) (bits_of_words ws) ≡ ws
unfolding words_of
words_of-bits ws small =
    let B : List Bool = bits_of_words ws in
    let long = length-map-range_with_len (word_at B) 0 (length ws) in
    ext_get_or 0 (words_of (length ws) B) ws long
    (λ i below.
    let inside : i < length ws = omega arith in
    get_or-map-range_with_len (word_at B) 0 (length ws) i i 0 inside (omega arith)
    ∙ ap number_of (word_of ws i inside)
    ∙ number_of-word_bits (get_or ws i 0) (small i 0 inside))

-- what is packed is unpacked
pub packed_back : (n : ℕ) (words : List ℕ) → IsPacked n words → packed n (unpacked n words) ≡ words
unfolding packed unpacked
packed_back n words h =
    let B : List Bool = bits_of_words words in
    ap (λ l. words_of 5 (take n B ++ l)) (sym h.clear)
    ∙ ap (words_of 5) (take-append-drop n B)
    ∙ ap (λ k. words_of k B) (sym h.long)
    ∙ words_of-bits words h.small
