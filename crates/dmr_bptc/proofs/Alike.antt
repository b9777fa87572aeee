-- Bits that are packed into the same words are the same bits.
use Rattle.std.proofs.Common.{◌≡◌, ℕ, zero, suc, ◌+◌, ◌-◌, ◌*◌, ◌<◌, ◌≤◌, Bool, false, List, [], ◌∷◌, ◌++◌, length, take, drop}
use Rattle.std.proofs.Common.{get_or, replicate, refl, sym, ap, ◌∙◌, arith}
use Rattle.std.proofs.lemmas.List.{length-append, length-drop, length-replicate, length-take-le}
use Rattle.std.proofs.lemmas.List.{drop-drop, take-append-drop, take_at}
use Rattle.std.proofs.lemmas.List.FromFn.{get_or-map-range_with_len}
use Rattle.dmr_bits.specs.Bits.{bits_of}
use Rattle.dmr_bits.specs.Words.{packed, words_of, word_at}
use Rattle.dmr_bits.proofs.Lists.{bits_of_spelled}

-- the words of two lists are the same where all are
same_word : (xs ys : List Bool) (k : ℕ) → 64 * k + 64 ≤ length xs → 64 * k + 64 ≤ length ys → word_at xs k ≡ word_at ys k
    → take 64 (drop (64 * k) xs) ≡ take 64 (drop (64 * k) ys)
same_word xs ys k first second same =
    let one = length-take-le 64 (drop (64 * k) xs) (omega (arith, length-drop (64 * k) xs)) in
    let other = length-take-le 64 (drop (64 * k) ys) (omega (arith, length-drop (64 * k) ys)) in
    sym (bits_of_spelled 64 _ one) ∙ ap (bits_of 64) same ∙ bits_of_spelled 64 _ other

-- lists of whole words that have the same words are the same
same_words : (count : ℕ) (xs ys : List Bool) → length xs ≡ 64 * count → length ys ≡ 64 * count
    → ((k : ℕ) → k < count → take 64 (drop (64 * k) xs) ≡ take 64 (drop (64 * k) ys)) → xs ≡ ys
same_words zero [] [] first second same = refl
same_words zero (x ∷ xs) ys first second same = absurd (omega (arith, first))
same_words zero [] (y ∷ ys) first second same = absurd (omega (arith, second))
same_words (suc count) xs ys first second same =
    let here : take 64 xs ≡ take 64 ys = same 0 (omega arith) in
    let behind : drop 64 xs ≡ drop 64 ys = same_words count (drop 64 xs) (drop 64 ys)
    (omega (arith, length-drop 64 xs)) (omega (arith, length-drop 64 ys))
    (λ k few.
    let place : 64 + 64 * k ≡ 64 * suc k = omega arith in
    ap (take 64) (drop-drop (64 * k) 64 xs ∙ ap (λ n. drop n xs) place) ∙ same (suc k) (omega arith)
    ∙ ap (take 64) (sym (drop-drop (64 * k) 64 ys ∙ ap (λ n. drop n ys) place))) in
    sym (take-append-drop 64 xs) ∙ ap (λ l. l ++ drop 64 xs) here ∙ ap (λ l. take 64 ys ++ l) behind ∙ take-append-drop 64 ys

-- a word among those that are packed
packed_word : (xs : List Bool) (k : ℕ) → k < 5 → get_or (words_of 5 xs) k 0 ≡ word_at xs k
unfolding words_of
packed_word xs k few = get_or-map-range_with_len (word_at xs) 0 5 k k 0 few (omega arith)

-- lists of bits that are packed alike are the same
pub packed_alike : (n : ℕ) (xs ys : List Bool) → n ≤ 320 → length xs ≡ n → length ys ≡ n → packed n xs ≡ packed n ys → xs ≡ ys
unfolding packed
packed_alike n xs ys most first second same =
    let zeros : List Bool = replicate (320 - n) false in
    let one : length (xs ++ zeros) ≡ 320 = omega (arith, length-append xs zeros, length-replicate (320 - n) false) in
    let other : length (ys ++ zeros) ≡ 320 = omega (arith, length-append ys zeros, length-replicate (320 - n) false) in
    let whole : xs ++ zeros ≡ ys ++ zeros = same_words 5 (xs ++ zeros) (ys ++ zeros) (omega (arith, one)) (omega (arith, other))
    (λ k few. same_word (xs ++ zeros) (ys ++ zeros) k (omega (arith, one)) (omega (arith, other))
    (sym (packed_word (xs ++ zeros) k few) ∙ ap (λ l. get_or l k 0) same ∙ packed_word (ys ++ zeros) k few)) in
    sym (take_at xs zeros n first) ∙ ap (take n) whole ∙ take_at ys zeros n second
