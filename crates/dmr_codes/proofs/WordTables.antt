-- Tables of words: each entry is a word, and what is told of the wrong information is right.
use Rattle.std.proofs.Common.{◌≡◌, ℕ, ◌+◌, ◌-◌, ◌*◌, ◌/◌, ◌%◌, ◌^◌, ◌<◌, ◌≤◌, ◌==◌, ◌&&◌, Bool, true, false, zero, suc, List}
use Rattle.std.proofs.Common.{[], ◌∷◌, length, get_or, take, drop, refl, sym, ap, ◌∙◌, arith, bit_xor, eqb-true, subst, mod-lt}
use Rattle.std.specs.List.{list_all, range_with_len}
use Rattle.std.specs.Prelude.{nat_lt}
use Rattle.std.proofs.lemmas.Bool.{and_parts, both_ways, ltb-true}
use Rattle.std.proofs.lemmas.List.Folds.{list_all_at}
use Rattle.std.proofs.lemmas.List.FromFn.{length-range_with_len, get_or-range_with_len}
use Rattle.std.proofs.Math.Nat.{mul_comm, div-add-mod'}
use Rattle.std.proofs.lemmas.Nat.{xor_comm, xor_lt, xor_shr, xor_block, shr_below, pow_pos}
use Rattle.std.proofs.lemmas.Nat.Bits.{bit_at_xor, bit_at-zero}
use Rattle.std.specs.Int.Bits.{xor_assoc, xor_self, xor_zero_l}
use Rattle.dmr_bits.specs.Bits.{bits_of, number_of, xor_bits, weight, distance}
use Rattle.dmr_bits.proofs.Lists.{length-bits_of, length-xor_bits, xor_bits_twice, bits_of_spelled, number_of-lt, number_of-cons}
use Rattle.dmr_bits.proofs.Lists.{weight-cons, bits_of_field}
use Rattle.dmr_bits.proofs.Numbers.{bits_of_xor, bits_of_same}
use Rattle.dmr_bits.proofs.Widths.{bits_of-take}
use Rattle.dmr_codes.specs.Code.{ones_over, IsWord, IsShaped}
use Rattle.dmr_codes.specs.Words.{IsWord-xor, information_first}
use Rattle.dmr_codes.specs.WordTables.{failed_checks, are_words, are_words_each, left_of, tells}
use Rattle.dmr_codes.proofs.Loops.{word_at_zero}

-- ---- tests of all numbers below one
holds : (b : Bool) → (b ≡ false → ⊥) → b ≡ true
holds true f = refl
holds false f = absurd (f refl)

all_below : (p : ℕ → Bool) (n i : ℕ) → list_all p (range_with_len 0 n) ≡ true → i < n → p i ≡ true
all_below p n i e h =
    let at : get_or (range_with_len 0 n) i 0 ≡ i = get_or-range_with_len 0 n i 0 h ∙ omega arith in
    let long : i < length (range_with_len 0 n) = rw length-range_with_len h in
    holds (p i)
    (λ f. both_ways (list_all p (range_with_len 0 n)) (list_all_at p (range_with_len 0 n) i 0 long (ap p at ∙ f)) e)

-- ---- the words
failed_bit : (j : ℕ) (cs : List ℕ) (w : List Bool) → failed_checks cs w / 2 ^ j % 2 ≡ ones_over j cs w % 2
failed_bit j [] w = omega (arith, bit_at-zero j)
failed_bit j (c ∷ cs) [] = omega (arith, bit_at-zero j)
failed_bit j (c ∷ cs) (true ∷ w) = omega (arith, bit_at_xor c (failed_checks cs w) j, failed_bit j cs w)
failed_bit j (c ∷ cs) (false ∷ w) = omega (arith, failed_bit j cs w)

pub each_word : (n k step count : ℕ) (cs words : List ℕ) (i : ℕ) → IsShaped n k cs → are_words_each n k step count cs words ≡ true
    → i < count → IsWord cs (n - k) (bits_of n (get_or words i 0))
each_word n k step count cs words i shaped are h =
    let w : ℕ = get_or words i 0 in
    let both = and_parts _ _ (all_below (λ i. (get_or words i 0 / 2 ^ (n - k) == step * i)
    && (failed_checks cs (bits_of n (get_or words i 0)) == 0)) count i are h) in
    word_at_zero n k (failed_checks cs (bits_of n w)) cs (bits_of n w) shaped (length-bits_of n w)
    (λ j. failed_bit j cs (bits_of n w))
    (eqb-true _ _ both.1)

pub each_information : (n k step count : ℕ) (cs words : List ℕ) (i : ℕ) → are_words_each n k step count cs words ≡ true → i < count
    → get_or words i 0 / 2 ^ (n - k) ≡ step * i
each_information n k step count cs words i are h =
    let both = and_parts _ _ (all_below (λ i. (get_or words i 0 / 2 ^ (n - k) == step * i)
    && (failed_checks cs (bits_of n (get_or words i 0)) == 0)) count i are h) in
    eqb-true _ _ both.0

-- each entry of a code's table of words is a word of the code
pub word_at : (n k : ℕ) (cs words : List ℕ) (i : ℕ) → IsShaped n k cs → are_words n k cs words ≡ true → i < 2 ^ k
    → IsWord cs (n - k) (bits_of n (get_or words i 0))
word_at n k cs words i shaped are h = each_word n k 1 (2 ^ k) cs words i shaped are h

information_at : (n k : ℕ) (cs words : List ℕ) (i : ℕ) → are_words n k cs words ≡ true → i < 2 ^ k
    → get_or words i 0 / 2 ^ (n - k) ≡ i
information_at n k cs words i are h = each_information n k 1 (2 ^ k) cs words i are h ∙ omega arith

-- the information of n bits
pub front_of : (n k number : ℕ) → k ≤ n → take k (bits_of n number) ≡ bits_of k (number / 2 ^ (n - k))
front_of n k number h = bits_of-take k (n - k) n number (omega arith)

-- each entry of a code's table of words begins with the bits of its number
pub front_at : (n k : ℕ) (cs words : List ℕ) (i : ℕ) → IsShaped n k cs → are_words n k cs words ≡ true → i < 2 ^ k
    → take k (bits_of n (get_or words i 0)) ≡ bits_of k i
front_at n k cs words i shaped are h =
    front_of n k (get_or words i 0) shaped.information ∙ ap (bits_of k) (information_at n k cs words i are h)

-- the information of a number that fits all places of a word fits the places of information
pub information_small : (n k number : ℕ) → k ≤ n → number < 2 ^ n → number / 2 ^ (n - k) < 2 ^ k
information_small n k number h small =
    let whole : k + (n - k) ≡ n = omega arith in
    shr_below number k (n - k) (rw whole small)

-- a word is the entry of its information
entry_is : (n k : ℕ) (cs words : List ℕ) (number : ℕ) → IsShaped n k cs → are_words n k cs words ≡ true → number < 2 ^ n
    → get_or words (number / 2 ^ (n - k)) 0 < 2 ^ n → IsWord cs (n - k) (bits_of n number)
    → number ≡ get_or words (number / 2 ^ (n - k)) 0
entry_is n k cs words number shaped are small fits word =
    let i : ℕ = number / 2 ^ (n - k) in
    let h : i < 2 ^ k = information_small n k number shaped.information small in
    bits_of_same n number (get_or words i 0) small fits
    (information_first n k cs (bits_of n number) (bits_of n (get_or words i 0)) shaped word (word_at n k cs words i shaped are h)
    (front_of n k number shaped.information ∙ sym (front_at n k cs words i shaped are h)))

-- the entry of a sum is the sum of the entries
entry_xor : (n k : ℕ) (cs words : List ℕ) (i j : ℕ) → IsShaped n k cs → are_words n k cs words ≡ true
    → ((i : ℕ) → i < 2 ^ k → get_or words i 0 < 2 ^ n) → i < 2 ^ k → j < 2 ^ k
    → bit_xor (get_or words i 0) (get_or words j 0) ≡ get_or words (bit_xor i j) 0
entry_xor n k cs words i j shaped are fit h l =
    let a : ℕ = get_or words i 0 in
    let b : ℕ = get_or words j 0 in
    let small : bit_xor a b < 2 ^ n = xor_lt n a b (fit i h) (fit j l) in
    let front : bit_xor a b / 2 ^ (n - k) ≡ bit_xor i j =
    xor_shr a b (n - k) ∙ ap (λ x. bit_xor x (b / 2 ^ (n - k))) (information_at n k cs words i are h)
    ∙ ap (bit_xor i) (information_at n k cs words j are l) in
    let below : bit_xor i j < 2 ^ k = xor_lt k i j h l in
    let word : IsWord cs (n - k) (bits_of n (bit_xor a b)) =
    subst (IsWord cs (n - k)) (sym (bits_of_xor n a b))
    (IsWord-xor cs (n - k) (bits_of n a) (bits_of n b) (word_at n k cs words i shaped are h)
    (word_at n k cs words j shaped are l)) in
    let entry : get_or words (bit_xor a b / 2 ^ (n - k)) 0 < 2 ^ n = rw front (fit (bit_xor i j) below) in
    entry_is n k cs words (bit_xor a b) shaped are small entry word ∙ ap (λ x. get_or words x 0) front

-- ---- what is wrong
-- the table has the information of each few ones
told : (n k : ℕ) (words wrong : List ℕ) (front ones : ℕ) (e : List Bool) → tells n k words wrong (length e) front ones ≡ true
    → weight e ≤ ones
    → get_or wrong (left_of n k words (front + number_of e)) 0 ≡ (front + number_of e) / 2 ^ (n - k)
told n k words wrong front ones [] t h =
    let none : front + 0 ≡ front = omega arith in
    rw none (eqb-true _ _ t)
told n k words wrong front zero (b ∷ e) t h =
    let none : front + number_of (b ∷ e) ≡ front = omega (arith, no_ones (b ∷ e) (omega arith)) in
    rw none (eqb-true _ _ t)
  where
    no_ones : (e : List Bool) → weight e ≡ 0 → number_of e ≡ 0
    no_ones [] h = refl
    no_ones (true ∷ e) h = absurd (omega (arith, weight-cons true e))
    no_ones (false ∷ e) h = omega (arith, number_of-cons false e, no_ones e (omega (arith, weight-cons false e)))
told n k words wrong front (suc ones) (true ∷ e) t h =
    let both = and_parts (tells n k words wrong (length e) front (suc ones))
    (tells n k words wrong (length e) (front + 2 ^ length e) ones) t in
    let few : weight e ≤ ones = omega (arith, weight-cons true e) in
    let sum : front + number_of (true ∷ e) ≡ front + 2 ^ length e + number_of e = omega (arith, number_of-cons true e) in
    rw sum (told n k words wrong (front + 2 ^ length e) ones e both.1 few)
told n k words wrong front (suc ones) (false ∷ e) t h =
    let both = and_parts (tells n k words wrong (length e) front (suc ones))
    (tells n k words wrong (length e) (front + 2 ^ length e) ones) t in
    let few : weight e ≤ suc ones = omega (arith, weight-cons false e) in
    let sum : front + number_of (false ∷ e) ≡ front + number_of e = omega (arith, number_of-cons false e) in
    rw sum (told n k words wrong front (suc ones) e both.0 few)

-- (w + e) + (w + v) is e + v
xor_cancel : (w e v : ℕ) → bit_xor (bit_xor w e) (bit_xor w v) ≡ bit_xor e v
xor_cancel w e v =
    ap (λ x. bit_xor x (bit_xor w v)) (xor_comm w e) ∙ xor_assoc e w (bit_xor w v)
    ∙ ap (bit_xor e) (sym (xor_assoc w w v) ∙ ap (λ x. bit_xor x v) (xor_self w) ∙ xor_zero_l v)

-- the word that is looked up is the one from which few ones lead to the number
pub nearest_is : (n k reach : ℕ) (cs words wrong : List ℕ) (w r : List Bool) (number : ℕ) → IsShaped n k cs
    → are_words n k cs words ≡ true → tells n k words wrong n 0 reach ≡ true
    → ((i : ℕ) → i < 2 ^ k → get_or words i 0 < 2 ^ n) → length r ≡ n → bits_of n number ≡ r → number < 2 ^ n → IsWord cs (n - k) w
    → distance w r ≤ reach
    → bits_of n (get_or words (bit_xor (number / 2 ^ (n - k)) (get_or wrong (left_of n k words number) 0)) 0) ≡ w
nearest_is n k reach cs words wrong w r number shaped are tell fit long spelled small word near =
    let e : List Bool = xor_bits w r in
    let lw : length w ≡ n = word.long ∙ shaped.places in
    let le : length e ≡ n = length-xor_bits w r (lw ∙ sym long) ∙ lw in
    let W : ℕ = number_of w in
    let E : ℕ = number_of e in
    let W_is : bits_of n W ≡ w = bits_of_spelled n w lw in
    let E_is : bits_of n E ≡ e = bits_of_spelled n e le in
    let W_small : W < 2 ^ n = rw lw at (number_of-lt w) in
    let E_small : E < 2 ^ n = rw le at (number_of-lt e) in
    let i : ℕ = W / 2 ^ (n - k) in
    let j : ℕ = E / 2 ^ (n - k) in
    let hi : i < 2 ^ k = information_small n k W shaped.information W_small in
    let hj : j < 2 ^ k = information_small n k E shaped.information E_small in
    let sum : number ≡ bit_xor W E =
    bits_of_same n number (bit_xor W E) small (xor_lt n W E W_small E_small)
    (spelled ∙ sym (xor_bits_twice w r (lw ∙ sym long)) ∙ sym (ap (λ x. xor_bits x e) W_is)
    ∙ sym (ap (xor_bits (bits_of n W)) E_is)
    ∙ sym (bits_of_xor n W E)) in
    let front : number / 2 ^ (n - k) ≡ bit_xor i j = ap (λ x. x / 2 ^ (n - k)) sum ∙ xor_shr W E (n - k) in
    let entry : W ≡ get_or words i 0 =
    entry_is n k cs words W shaped are W_small (fit i hi) (subst (IsWord cs (n - k)) (sym W_is) word) in
    let V : ℕ = get_or words j 0 in
    let other : get_or words (number / 2 ^ (n - k)) 0 ≡ bit_xor W V =
    ap (λ x. get_or words x 0) front ∙ sym (entry_xor n k cs words i j shaped are fit hi hj) ∙ ap (λ x. bit_xor x V) (sym entry) in
    let left : left_of n k words number ≡ left_of n k words E =
    ap (λ x. x % 2 ^ (n - k))
    (ap (bit_xor number) other ∙ ap (λ x. bit_xor x (bit_xor W V)) sum ∙ xor_cancel W E V) in
    let tell_e : tells n k words wrong (length e) 0 reach ≡ true = ap (λ m. tells n k words wrong m 0 reach) le ∙ tell in
    let none : 0 + E ≡ E = omega arith in
    let known : get_or wrong (left_of n k words E) 0 ≡ j = rw none at (told n k words wrong 0 reach e tell_e near) in
    let place : bit_xor (number / 2 ^ (n - k)) (get_or wrong (left_of n k words number) 0) ≡ i =
    ap (λ x. bit_xor (number / 2 ^ (n - k)) (get_or wrong x 0)) left ∙ ap (bit_xor (number / 2 ^ (n - k))) known
    ∙ ap (λ x. bit_xor x j) front
    ∙ xor_assoc i j j ∙ ap (bit_xor i) (xor_self j) ∙ xor_comm i 0 ∙ xor_zero_l i in
    ap (λ x. bits_of n (get_or words x 0)) place ∙ ap (bits_of n) (sym entry) ∙ W_is

-- ---- what is looked up, by its steps
pub fit_at : (limit : ℕ) (xs : List ℕ) (i : ℕ) → list_all (λ x. nat_lt x limit) xs ≡ true → i < length xs → get_or xs i 0 < limit
fit_at limit [] i e h = absurd (omega arith)
fit_at limit (x ∷ xs) zero e h =
    let both = and_parts (nat_lt x limit) (list_all (λ y. nat_lt y limit) xs) e in
    ltb-true x limit both.0
fit_at limit (x ∷ xs) (suc i) e h =
    let both = and_parts (nat_lt x limit) (list_all (λ y. nat_lt y limit) xs) e in
    fit_at limit xs i both.1 (omega arith)

-- information with what the table of errors says added to it still fits its places
pub right_small : (k m size information left second : ℕ) (wrong : List ℕ) → information < 2 ^ k
    → list_all (λ x. nat_lt x (2 ^ k)) wrong ≡ true → length wrong ≡ 2 ^ m → size ≡ 2 ^ m → second ≡ get_or wrong (left % size) 0
    → bit_xor information second < 2 ^ k
right_small k m size information left second wrong h e long is at =
    let place : left % size < length wrong = rw (long, is) (mod-lt left (pow_pos m)) in
    let entry : get_or wrong (left % size) 0 < 2 ^ k = fit_at (2 ^ k) wrong (left % size) e place in
    rw at (xor_lt k information (get_or wrong (left % size) 0) h entry)

-- where a word is within reach of the received bits, looking up in the two tables gives that word
pub looked_up : (n k reach number first second third size : ℕ) (cs words wrong : List ℕ) (w r found : List Bool) → IsShaped n k cs
    → are_words n k cs words ≡ true → tells n k words wrong n 0 reach ≡ true → list_all (λ x. nat_lt x (2 ^ n)) words ≡ true
    → length words ≡ 2 ^ k → length r ≡ n → number ≡ number_of (take n (drop 0 r)) → number < 2 ^ n → size ≡ 2 ^ (n - k)
    → first ≡ get_or words (number / 2 ^ (n - k)) 0 → second ≡ get_or wrong (bit_xor number first % size) 0
    → third ≡ get_or words (bit_xor (number / 2 ^ (n - k)) second) 0 → found ≡ bits_of n third
    → IsWord cs (n - k) w → distance w r ≤ reach → found ≡ w
looked_up n k reach number first second third size cs words wrong w r found shaped are tell fits count long is small sized one two
    three whole word near =
    let told : second ≡ get_or wrong (left_of n k words number) 0 =
    two ∙ ap (λ x. get_or wrong (bit_xor number x % size) 0) one
    ∙ ap (λ x. get_or wrong (bit_xor number (get_or words (number / 2 ^ (n - k)) 0) % x) 0) sized in
    whole ∙ ap (bits_of n) (three ∙ ap (λ x. get_or words (bit_xor (number / 2 ^ (n - k)) x) 0) told)
    ∙ nearest_is n k reach cs words wrong w r number shaped are tell
    (λ i h. fit_at (2 ^ n) words i fits (omega (arith, count, h))) long (bits_of_field n r number long is) small word near

-- ---- a word as the sum of two
sum_front : (hi lo low : ℕ) → lo < 2 ^ low → bit_xor (2 ^ low * hi) (1 * lo) ≡ hi * 2 ^ low + lo
sum_front hi lo low h =
    let first : 2 ^ low * hi ≡ hi * 2 ^ low + 0 = omega (arith, mul_comm (2 ^ low) hi) in
    let second : 1 * lo ≡ 0 * 2 ^ low + lo = omega arith in
    rw (first, second) (xor_block low hi 0 0 lo (pow_pos low) h
    ∙ ap (λ x. x * 2 ^ low + bit_xor 0 lo) (xor_comm hi 0 ∙ xor_zero_l hi)
    ∙ ap (λ x. hi * 2 ^ low + x) (xor_zero_l lo))

-- the upper table's entry for a number's upper part and the lower one's for its lower part add up to a word
pub sum_word : (n k low number : ℕ) (cs upper lower : List ℕ) → IsShaped n k cs
    → are_words_each n k (2 ^ low) (2 ^ (k - low)) cs upper ≡ true → are_words_each n k 1 (2 ^ low) cs lower ≡ true
    → number / 2 ^ low < 2 ^ (k - low)
    → IsWord cs (n - k) (bits_of n (bit_xor (get_or upper (number / 2 ^ low) 0) (get_or lower (number % 2 ^ low) 0)))
sum_word n k low number cs upper lower shaped high rest h =
    let a : ℕ = get_or upper (number / 2 ^ low) 0 in
    let b : ℕ = get_or lower (number % 2 ^ low) 0 in
    subst (IsWord cs (n - k)) (sym (bits_of_xor n a b))
    (IsWord-xor cs (n - k) (bits_of n a) (bits_of n b)
    (each_word n k (2 ^ low) (2 ^ (k - low)) cs upper (number / 2 ^ low) shaped high h)
    (each_word n k 1 (2 ^ low) cs lower (number % 2 ^ low) shaped rest (mod-lt number (pow_pos low))))

-- the information of the word that is such a sum is the number
pub sum_information : (n k low number : ℕ) (cs upper lower : List ℕ) → IsShaped n k cs
    → are_words_each n k (2 ^ low) (2 ^ (k - low)) cs upper ≡ true → are_words_each n k 1 (2 ^ low) cs lower ≡ true
    → number / 2 ^ low < 2 ^ (k - low)
    → take k (bits_of n (bit_xor (get_or upper (number / 2 ^ low) 0) (get_or lower (number % 2 ^ low) 0))) ≡ bits_of k number
sum_information n k low number cs upper lower shaped high rest h =
    let a : ℕ = get_or upper (number / 2 ^ low) 0 in
    let b : ℕ = get_or lower (number % 2 ^ low) 0 in
    let small : number % 2 ^ low < 2 ^ low = mod-lt number (pow_pos low) in
    front_of n k (bit_xor a b) shaped.information
    ∙ ap (bits_of k)
    (xor_shr a b (n - k)
    ∙ ap (λ x. bit_xor x (b / 2 ^ (n - k))) (each_information n k (2 ^ low) (2 ^ (k - low)) cs upper (number / 2 ^ low) high h)
    ∙ ap (bit_xor (2 ^ low * (number / 2 ^ low))) (each_information n k 1 (2 ^ low) cs lower (number % 2 ^ low) rest small)
    ∙ sum_front (number / 2 ^ low) (number % 2 ^ low) low small
    ∙ div-add-mod' number (2 ^ low))

-- the upper part of a number that fits a width fits what of the width is above the lower part
pub high_small : (k low number : ℕ) → low ≤ k → number < 2 ^ k → number / 2 ^ low < 2 ^ (k - low)
high_small k low number h small =
    let whole : k - low + low ≡ k = omega arith in
    shr_below number (k - low) low (rw whole small)
