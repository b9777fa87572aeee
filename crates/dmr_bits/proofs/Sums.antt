-- Sums of words, and their ones.
use Rattle.std.proofs.Common.{◌≡◌, ℕ, ◌+◌, ◌*◌, ◌/◌, ◌%◌, ◌^◌, ◌<◌, ◌==◌, Bool, cond, zero, suc, List, [], ◌∷◌, ◌++◌}
use Rattle.std.proofs.Common.{length, get_or, refl, sym, ap, ◌∙◌, arith, mod-lt}
use Rattle.std.specs.List.{All}
use Rattle.std.specs.Int.RustNames.{bit_xor, count_ones}
use Rattle.std.proofs.lemmas.Nat.{div-add-mod', pow_pos, shr_below, ones_cat, xor_lt}
use Rattle.std.proofs.lemmas.Nat.Bits.{bit_at_xor, bit_at-lt}
use Rattle.std.proofs.lemmas.List.Sums.{sum_by-append}
use Rattle.dmr_bits.specs.Bits.{bits_of, xor, xor_bits, weight}
use Rattle.dmr_bits.specs.Words.{word_bits, bits_of_words}
use Rattle.dmr_bits.proofs.Lists.{bits_of_above, weight-cons, xor_bits-append}
use Rattle.dmr_bits.proofs.WordLists.{length-word_bits, bits_of_words-cons, bits_of_words-none}

ones_of_none : count_ones 0 ≡ 0
unfolding count_ones
ones_of_none = refl

one_is : (q : ℕ) → q < 2 → cond (q % 2 == 1) 1 0 ≡ count_ones q
unfolding count_ones
one_is zero h = refl
one_is (suc zero) h = refl
one_is (suc (suc q)) h = absurd (omega arith)

-- the ones among a number's bits
pub weight-bits_of : (k n : ℕ) → n < 2 ^ k → weight (bits_of k n) ≡ count_ones n
weight-bits_of zero n h = sym ones_of_none ∙ (let e : 0 ≡ n = omega arith in ap count_ones e)
weight-bits_of (suc k) n h =
    let q : ℕ = n / 2 ^ k in
    let r : ℕ = n % 2 ^ k in
    let parts : q * 2 ^ k + r ≡ n = div-add-mod' n (2 ^ k) in
    let below : r < 2 ^ k = mod-lt n (pow_pos k) in
    let wide : n < 2 ^ (1 + k) = (let s : 1 + k ≡ suc k = omega arith in rw s h) in
    let high : q < 2 = shr_below n 1 k wide in
    let low : weight (bits_of k n) ≡ count_ones r = ap (λ m. weight (bits_of k m)) (sym parts)
    ∙ ap weight (bits_of_above k q r k (omega arith)) ∙ weight-bits_of k r below in
    weight-cons (q % 2 == 1) (bits_of k n)
    ∙ ap (λ m. m + weight (bits_of k n)) (one_is q high)
    ∙ ap (λ m. count_ones q + m) low
    ∙ sym (ones_cat k q r below)
    ∙ ap count_ones parts

weight-word_bits : (n : ℕ) → n < 2 ^ 64 → weight (word_bits n) ≡ count_ones n
unfolding word_bits
weight-word_bits n h = weight-bits_of 64 n h

weight-append : (xs ys : List Bool) → weight (xs ++ ys) ≡ weight xs + weight ys
weight-append xs ys = sum_by-append (λ b. cond b 1 0) xs ys

-- the sum of two bits
sum_bit : (a b : ℕ) → a < 2 → b < 2 → ((a + b) % 2 == 1) ≡ xor (a == 1) (b == 1)
sum_bit zero zero h k = refl
sum_bit zero (suc zero) h k = refl
sum_bit (suc zero) zero h k = refl
sum_bit (suc zero) (suc zero) h k = refl
sum_bit (suc (suc a)) b h k = absurd (omega arith)
sum_bit a (suc (suc b)) h k = absurd (omega arith)

-- the bits of the sum of two numbers, bit by bit, are the sum of their bits
pub bits_of_xor : (k a b : ℕ) → bits_of k (bit_xor a b) ≡ xor_bits (bits_of k a) (bits_of k b)
bits_of_xor zero a b = refl
bits_of_xor (suc k) a b =
    let head : (bit_xor a b / 2 ^ k % 2 == 1) ≡ xor (a / 2 ^ k % 2 == 1) (b / 2 ^ k % 2 == 1) =
    ap (λ m. m == 1) (bit_at_xor a b k) ∙ sum_bit (a / 2 ^ k % 2) (b / 2 ^ k % 2) (bit_at-lt a k) (bit_at-lt b k) in
    let tail = bits_of_xor k a b in
    cc

word_xor : (a b : ℕ) → word_bits (bit_xor a b) ≡ xor_bits (word_bits a) (word_bits b)
unfolding word_bits
word_xor a b = bits_of_xor 64 a b

sum_more : (a b : ℕ) (zs ws vs : List ℕ) → bits_of_words zs ≡ xor_bits (bits_of_words ws) (bits_of_words vs)
    → bits_of_words (bit_xor a b ∷ zs) ≡ xor_bits (bits_of_words (a ∷ ws)) (bits_of_words (b ∷ vs))
sum_more a b zs ws vs e =
    bits_of_words-cons (bit_xor a b) zs
    ∙ ap (λ l. l ++ bits_of_words zs) (word_xor a b)
    ∙ ap (λ l. xor_bits (word_bits a) (word_bits b) ++ l) e
    ∙ sym (xor_bits-append (word_bits a) (bits_of_words ws) (word_bits b) (bits_of_words vs) (length-word_bits a
    ∙ sym (length-word_bits b)))
    ∙ ap (λ l. xor_bits l (word_bits b ++ bits_of_words vs)) (sym (bits_of_words-cons a ws))
    ∙ ap (xor_bits (bits_of_words (a ∷ ws))) (sym (bits_of_words-cons b vs))

sum_none : bits_of_words [] ≡ xor_bits (bits_of_words []) (bits_of_words [])
sum_none = bits_of_words-none ∙ ap (λ l. xor_bits l (bits_of_words [])) (sym bits_of_words-none)

-- five words by their places
pub five : (ws : List ℕ) → length ws ≡ 5 → get_or ws 0 0 ∷ get_or ws 1 0 ∷ get_or ws 2 0 ∷ get_or ws 3 0 ∷ get_or ws 4 0 ∷ [] ≡ ws
five [] h = absurd (omega arith)
five (a ∷ []) h = absurd (omega arith)
five (a ∷ b ∷ []) h = absurd (omega arith)
five (a ∷ b ∷ c ∷ []) h = absurd (omega arith)
five (a ∷ b ∷ c ∷ d ∷ []) h = absurd (omega arith)
five (a ∷ b ∷ c ∷ d ∷ e ∷ []) h = refl
five (a ∷ b ∷ c ∷ d ∷ e ∷ f ∷ ws) h = absurd (omega arith)

-- five words that are each the sum of two have as bits the sum of the two lists' bits
pub sum_words : (ws vs : List ℕ) → length ws ≡ 5 → length vs ≡ 5
    → bits_of_words
    (bit_xor (get_or ws 0 0) (get_or vs 0 0) ∷ bit_xor (get_or ws 1 0) (get_or vs 1 0) ∷ bit_xor (get_or ws 2 0) (get_or vs 2 0) ∷
    bit_xor (get_or ws 3 0) (get_or vs 3 0) ∷ bit_xor (get_or ws 4 0) (get_or vs 4 0) ∷ [])
    ≡ xor_bits (bits_of_words ws) (bits_of_words vs)
sum_words ws vs p q =
    sum_more _ _ _ _ _ (sum_more _ _ _ _ _ (sum_more _ _ _ _ _ (sum_more _ _ _ _ _ (sum_more _ _ _ _ _ sum_none))))
    ∙ ap (λ l. xor_bits (bits_of_words l)
    (bits_of_words (get_or vs 0 0 ∷ get_or vs 1 0 ∷ get_or vs 2 0 ∷ get_or vs 3 0 ∷ get_or vs 4 0 ∷ []))) (five ws p)
    ∙ ap (λ l. xor_bits (bits_of_words ws) (bits_of_words l)) (five vs q)

ones_more : (a : ℕ) (ws : List ℕ) → a < 2 ^ 64 → weight (bits_of_words (a ∷ ws)) ≡ count_ones a + weight (bits_of_words ws)
ones_more a ws h =
    ap weight (bits_of_words-cons a ws) ∙ weight-append (word_bits a) (bits_of_words ws)
    ∙ ap (λ m. m + weight (bits_of_words ws)) (weight-word_bits a h)

-- the ones of five words, counted word by word, are as many as there are among all their bits
pub ones_words : (ws : List ℕ) → length ws ≡ 5 → ((k : ℕ) → k < 5 → get_or ws k 0 < 2 ^ 64)
    → count_ones (get_or ws 0 0) + count_ones (get_or ws 1 0) + count_ones (get_or ws 2 0) + count_ones (get_or ws 3 0) + count_ones
    (get_or ws 4 0) ≡ weight (bits_of_words ws)
ones_words ws p small =
    let a : ℕ = get_or ws 0 0 in
    let b : ℕ = get_or ws 1 0 in
    let c : ℕ = get_or ws 2 0 in
    let d : ℕ = get_or ws 3 0 in
    let e : ℕ = get_or ws 4 0 in
    let none : weight (bits_of_words []) ≡ 0 = ap weight bits_of_words-none in
    let all : weight (bits_of_words (a ∷ b ∷ c ∷ d ∷ e ∷ [])) ≡ weight (bits_of_words ws) =
    ap (λ l. weight (bits_of_words l)) (five ws p) in
    omega (
      arith,
      none,
      all,
      ones_more a (b ∷ c ∷ d ∷ e ∷ []) (small 0 (omega arith)),
      ones_more b (c ∷ d ∷ e ∷ []) (small 1 (omega arith)),
      ones_more c (d ∷ e ∷ []) (small 2 (omega arith)),
      ones_more d (e ∷ []) (small 3 (omega arith)),
      ones_more e [] (small 4 (omega arith)),
    )

-- the sums of five pairs of words of 64 bits are words of 64 bits
pub sum_small : (ws vs : List ℕ) → ((k : ℕ) → k < 5 → get_or ws k 0 < 2 ^ 64) → ((k : ℕ) → k < 5 → get_or vs k 0 < 2 ^ 64)
    → All (λ word. word < 2 ^ 64)
    (bit_xor (get_or ws 0 0) (get_or vs 0 0) ∷ bit_xor (get_or ws 1 0) (get_or vs 1 0) ∷ bit_xor (get_or ws 2 0) (get_or vs 2 0) ∷
    bit_xor (get_or ws 3 0) (get_or vs 3 0) ∷ bit_xor (get_or ws 4 0) (get_or vs 4 0) ∷ [])
sum_small ws vs p q zero d h = xor_lt 64 _ _ (p 0 (omega arith)) (q 0 (omega arith))
sum_small ws vs p q (suc zero) d h = xor_lt 64 _ _ (p 1 (omega arith)) (q 1 (omega arith))
sum_small ws vs p q (suc (suc zero)) d h = xor_lt 64 _ _ (p 2 (omega arith)) (q 2 (omega arith))
sum_small ws vs p q (suc (suc (suc zero))) d h = xor_lt 64 _ _ (p 3 (omega arith)) (q 3 (omega arith))
sum_small ws vs p q (suc (suc (suc (suc zero)))) d h = xor_lt 64 _ _ (p 4 (omega arith)) (q 4 (omega arith))
sum_small ws vs p q (suc (suc (suc (suc (suc k))))) d h = absurd (omega arith)
