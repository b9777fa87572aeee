-- Octets as words, and words as octets.
use Rattle.std.proofs.Common.{◌≡◌, ℕ, ◌+◌, ◌*◌, ◌/◌, ◌^◌, ◌<◌, ◌≤◌, Bool, zero, suc, List, [], ◌∷◌, ◌++◌, length, take}
use Rattle.std.proofs.Common.{drop, get_or, refl, sym, ap, ◌∙◌, arith, mod-lt, subst}
use Rattle.std.specs.Int.{bytes_high_first, byte_at, to_be_bytes, from_be_bytes, w64}
use Rattle.std.proofs.lemmas.List.{take-append-drop, drop_at, drop-drop, ext_get_or, get_or-take, get_or-drop, length-take-le}
use Rattle.std.proofs.lemmas.List.{length-drop, length-append, append-nil, append_assoc, take_at, take_more}
use Rattle.std.specs.List.{All}
use Rattle.std.proofs.lemmas.List.Elements.{All-append, All-take}
use Rattle.std.proofs.lemmas.List.Concat.{flat_map-cons, flat_map-append}
use Rattle.std.proofs.lemmas.Nat.{pow-add, be_bytes_8}
use Rattle.dmr_bits.specs.Bits.{bits_of, bits_of_octets}
use Rattle.dmr_bits.specs.Words.{word_bits, bits_of_words}
use Rattle.dmr_bits.proofs.Widths.{bits_of-take, bits_of-drop, bits_of-mod}
use Rattle.dmr_bits.proofs.WordLists.{bits_of_words-cons, bits_of_words-none, bits_of_words-append}
use Rattle.dmr_bits.proofs.OctetFronts.{length-bits_of_octets, bits_of_octets-take}

pow_256 : (k : ℕ) → 256 ^ k ≡ 2 ^ (8 * k)
pow_256 zero = refl
pow_256 (suc k) =
    let e : 8 * suc k ≡ 8 + 8 * k = omega arith in
    let f : 1 + k ≡ suc k = omega arith in
    let one : 256 ^ suc k ≡ 256 ^ 1 * 256 ^ k = ap (λ m. 256 ^ m) (sym f) ∙ pow-add 256 1 k in
    one ∙ ap (λ m. 256 ^ 1 * m) (pow_256 k) ∙ sym (ap (λ m. 2 ^ m) e ∙ pow-add 2 8 (8 * k))

byte_bits : (k n : ℕ) → bits_of 8 (byte_at k n) ≡ bits_of 8 (n / 2 ^ (8 * k))
byte_bits zero n = bits_of-mod 8 n ∙ (let e : n ≡ n / 1 = omega arith in ap (bits_of 8) e)
byte_bits (suc k) n = bits_of-mod 8 (n / 256 ^ suc k) ∙ ap (λ m. bits_of 8 (n / m)) (pow_256 (suc k))

pub bytes_bits : (k n : ℕ) → bits_of_octets (bytes_high_first k n) ≡ bits_of (8 * k) n
bytes_bits zero n = refl
bytes_bits (suc k) n =
    let e : 8 * suc k ≡ 8 + 8 * k = omega arith in
    flat_map-cons (bits_of 8) (byte_at k n) (bytes_high_first k n)
    ∙ ap (λ l. l ++ bits_of_octets (bytes_high_first k n)) (byte_bits k n ∙ sym (bits_of-take 8 (8 * k) (8 * suc k) n e))
    ∙ ap (λ l. take 8 (bits_of (8 * suc k) n) ++ l) (bytes_bits k n ∙ sym (bits_of-drop 8 (8 * k) (8 * suc k) n e))
    ∙ take-append-drop 8 (bits_of (8 * suc k) n)

pub be_bits : (n : ℕ) → bits_of_octets (to_be_bytes w64 n) ≡ word_bits n
unfolding word_bits
be_bits n = bytes_bits 8 n

-- the bits of the last octets are the last bits
pub bits_of_octets-drop : (k : ℕ) (octets : List ℕ) → k ≤ length octets
    → drop (8 * k) (bits_of_octets octets) ≡ bits_of_octets (drop k octets)
bits_of_octets-drop k octets h =
    let front : List ℕ = take k octets in
    let long : length (bits_of_octets front) ≡ 8 * k = length-bits_of_octets front ∙ ap (λ n. 8 * n) (length-take-le k octets h) in
    ap (λ l. drop (8 * k) (bits_of_octets l)) (sym (take-append-drop k octets))
    ∙ ap (drop (8 * k)) (flat_map-append (bits_of 8) front (drop k octets))
    ∙ drop_at (bits_of_octets front) (bits_of_octets (drop k octets)) (8 * k) long

eight_at : (octets : List ℕ) (from k : ℕ) → k < 8 → get_or octets (from + k) 0 ≡ get_or (take 8 (drop from octets)) k 0
eight_at octets from k h = sym (get_or-take 8 (drop from octets) k 0 h ∙ get_or-drop from octets k 0)

-- eight octets taken one by one from a place on are the stretch of the list there
pub eight : (octets : List ℕ) (from : ℕ) → from + 8 ≤ length octets
    → get_or octets from 0 ∷ get_or octets (from + 1) 0 ∷ get_or octets (from + 2) 0 ∷ get_or octets (from + 3) 0 ∷ get_or octets
    (from + 4) 0 ∷ get_or octets (from + 5) 0 ∷ get_or octets (from + 6) 0 ∷ get_or octets (from + 7) 0 ∷ []
    ≡ take 8 (drop from octets)
eight octets from h =
    let long : length (take 8 (drop from octets)) ≡ 8 =
    length-take-le 8 (drop from octets) (omega (arith, length-drop from octets)) in
    ext_get_or 0 _ (take 8 (drop from octets)) (sym long) (each)
  where
    each : (k : ℕ) → k < 8
        → get_or (get_or octets from 0 ∷ get_or octets (from + 1) 0 ∷ get_or octets (from + 2) 0 ∷ get_or octets (from + 3) 0 ∷
        get_or octets (from + 4) 0 ∷ get_or octets (from + 5) 0 ∷ get_or octets (from + 6) 0 ∷ get_or octets (from + 7) 0 ∷ []) k 0
        ≡ get_or (take 8 (drop from octets)) k 0
    each zero h = (let e : from ≡ from + 0 = omega arith in ap (λ n. get_or octets n 0) e ∙ eight_at octets from 0 (omega arith))
    each (suc zero) h = eight_at octets from 1 (omega arith)
    each (suc (suc zero)) h = eight_at octets from 2 (omega arith)
    each (suc (suc (suc zero))) h = eight_at octets from 3 (omega arith)
    each (suc (suc (suc (suc zero)))) h = eight_at octets from 4 (omega arith)
    each (suc (suc (suc (suc (suc zero))))) h = eight_at octets from 5 (omega arith)
    each (suc (suc (suc (suc (suc (suc zero)))))) h = eight_at octets from 6 (omega arith)
    each (suc (suc (suc (suc (suc (suc (suc zero))))))) h = eight_at octets from 7 (omega arith)
    each (suc (suc (suc (suc (suc (suc (suc (suc k)))))))) h = absurd (omega arith)

-- the word that eight octets spell
pub word_of_octets : (octets : List ℕ) (from n : ℕ) → from + 8 ≤ length octets → ((i : ℕ) → get_or octets i 0 < 256)
    → n ≡ from_be_bytes w64
    (get_or octets from 0 ∷ get_or octets (from + 1) 0 ∷ get_or octets (from + 2) 0 ∷ get_or octets (from + 3) 0 ∷ get_or octets
    (from + 4) 0 ∷ get_or octets (from + 5) 0 ∷ get_or octets (from + 6) 0 ∷ get_or octets (from + 7) 0 ∷ [])
    → word_bits n ≡ take 64 (drop (8 * from) (bits_of_octets octets))
word_of_octets octets from n room small e =
    let bs : List ℕ = get_or octets from 0 ∷ get_or octets (from + 1) 0 ∷ get_or octets (from + 2) 0 ∷ get_or octets (from + 3) 0 ∷
    get_or octets (from + 4) 0 ∷ get_or octets (from + 5) 0 ∷ get_or octets (from + 6) 0 ∷ get_or octets (from + 7) 0 ∷ [] in
    let few : (i : ℕ) → get_or bs i 0 < 256 = each in
    sym (be_bits n)
    ∙ ap bits_of_octets (be_bytes_8 bs n refl few e ∙ eight octets from room)
    ∙ sym (bits_of_octets-take 8 (drop from octets) (omega (arith, length-drop from octets)))
    ∙ ap (take 64) (sym (bits_of_octets-drop from octets (omega arith)))
  where
    each : (i : ℕ) → get_or
        (get_or octets from 0 ∷ get_or octets (from + 1) 0 ∷ get_or octets (from + 2) 0 ∷ get_or octets (from + 3) 0 ∷ get_or octets
        (from + 4) 0 ∷ get_or octets (from + 5) 0 ∷ get_or octets (from + 6) 0 ∷ get_or octets (from + 7) 0 ∷ []) i 0 < 256
    each zero = small from
    each (suc zero) = small (from + 1)
    each (suc (suc zero)) = small (from + 2)
    each (suc (suc (suc zero))) = small (from + 3)
    each (suc (suc (suc (suc zero)))) = small (from + 4)
    each (suc (suc (suc (suc (suc zero))))) = small (from + 5)
    each (suc (suc (suc (suc (suc (suc zero)))))) = small (from + 6)
    each (suc (suc (suc (suc (suc (suc (suc zero))))))) = small (from + 7)
    each (suc (suc (suc (suc (suc (suc (suc (suc i)))))))) = omega arith

next_word : (X : List Bool) (p q w : ℕ) (ws : List ℕ) → q ≡ p + 64 → word_bits w ≡ take 64 (drop p X) → bits_of_words ws ≡ drop q X
    → bits_of_words (w ∷ ws) ≡ drop p X
next_word X p q w ws e h k =
    bits_of_words-cons w ws
    ∙ ap (λ l. l ++ bits_of_words ws) h
    ∙ ap (λ l. take 64 (drop p X) ++ l) (k ∙ ap (λ n. drop n X) e ∙ sym (drop-drop 64 p X))
    ∙ take-append-drop 64 (drop p X)

-- five words have the bits of forty octets where each word has those of its eight
pub words_of_octets : (octets : List ℕ) (a b c d e : ℕ) → length octets ≡ 40
    → word_bits a ≡ take 64 (drop 0 (bits_of_octets octets)) → word_bits b ≡ take 64 (drop 64 (bits_of_octets octets))
    → word_bits c ≡ take 64 (drop 128 (bits_of_octets octets)) → word_bits d ≡ take 64 (drop 192 (bits_of_octets octets))
    → word_bits e ≡ take 64 (drop 256 (bits_of_octets octets)) → bits_of_words (a ∷ b ∷ c ∷ d ∷ e ∷ []) ≡ bits_of_octets octets
words_of_octets octets a b c d e long p q r s t =
    let X : List Bool = bits_of_octets octets in
    let none : drop 320 X ≡ [] = drop_past 320 X (omega (arith, length-bits_of_octets octets)) in
    next_word X 0 64 a (b ∷ c ∷ d ∷ e ∷ []) refl p
    (next_word X 64 128 b (c ∷ d ∷ e ∷ []) refl q
    (next_word X 128 192 c (d ∷ e ∷ []) refl r
    (next_word X 192 256 d (e ∷ []) refl s
    (next_word X 256 320 e [] refl t (bits_of_words-none ∙ sym none)))))
  where
    drop_past : (n : ℕ) (xs : List Bool) → length xs ≤ n → drop n xs ≡ []
    drop_past zero [] h = refl
    drop_past zero (x ∷ xs) h = absurd (omega arith)
    drop_past (suc n) [] h = refl
    drop_past (suc n) (x ∷ xs) h = drop_past n xs (omega arith)

bytes_small : (k n : ℕ) → All (λ octet. octet < 256) (bytes_high_first k n)
bytes_small zero n i d h = absurd (omega arith)
bytes_small (suc zero) n zero d h = mod-lt n (omega arith)
bytes_small (suc (suc k)) n zero d h = mod-lt (n / 256 ^ suc k) (omega arith)
bytes_small (suc k) n (suc i) d h = bytes_small k n i d (omega arith)

bits_of_words-one : (n : ℕ) → bits_of_words (n ∷ []) ≡ word_bits n
bits_of_words-one n = bits_of_words-cons n [] ∙ ap (λ l. word_bits n ++ l) bits_of_words-none ∙ append-nil (word_bits n)

-- a word's octets, written behind those of the words before it
pub octets_more : (octets words ys rest : List ℕ) (k : ℕ) → length octets ≡ 40 → k < 5 → length words ≡ 5
    → ys ≡ to_be_bytes w64 (get_or words k 0) → bits_of_octets (take (8 * k) octets) ≡ bits_of_words (take k words)
    → bits_of_octets (take (8 * (k + 1)) (take (8 * k) octets ++ (ys ++ rest))) ≡ bits_of_words (take (k + 1) words)
octets_more octets words ys rest k long inside five is e =
    let n : ℕ = get_or words k 0 in
    let front : List ℕ = take (8 * k) octets in
    let wide : length front ≡ 8 * k = length-take-le (8 * k) octets (omega arith) in
    let eight : length ys ≡ 8 = ap length is in
    let whole : length (front ++ ys) ≡ 8 * (k + 1) = omega (arith, length-append front ys) in
    ap (λ l. bits_of_octets (take (8 * (k + 1)) l)) (sym (append_assoc front ys rest))
    ∙ ap bits_of_octets (take_at (front ++ ys) rest (8 * (k + 1)) whole)
    ∙ flat_map-append (bits_of 8) front ys
    ∙ ap (λ l. l ++ bits_of_octets ys) e
    ∙ ap (λ l. bits_of_words (take k words) ++ l) (ap bits_of_octets is ∙ be_bits n)
    ∙ ap (λ l. bits_of_words (take k words) ++ l) (sym (bits_of_words-one n))
    ∙ sym (bits_of_words-append (take k words) (n ∷ []))
    ∙ ap bits_of_words (sym (take_more words k 0 (omega arith)))

-- octets below 256, then a word's own, then more below 256: all in the list are below 256
pub octets_small : (octets ys rest : List ℕ) (a n : ℕ) → All (λ octet. octet < 256) octets → ys ≡ to_be_bytes w64 n
    → All (λ octet. octet < 256) rest → All (λ octet. octet < 256) (take a octets ++ (ys ++ rest))
octets_small octets ys rest a n small is more =
    let P : ℕ → Type 0 = λ octet. octet < 256 in
    let Q : List ℕ → Type 0 = λ l. All P l in
    All-append P (take a octets) (ys ++ rest) (All-take P a octets small)
    (All-append P ys rest (subst Q (sym is) (bytes_small 8 n)) more)
