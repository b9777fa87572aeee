-- Bits in words, as they are packed and unpacked.
use Rattle.std.proofs.Common.{◌≡◌, ℕ, ◌+◌, ◌-◌, ◌*◌, ◌^◌, ◌<◌, ◌≤◌, ◌==◌, Bool, true, false, cond, zero, suc, List, [], ◌∷◌, ◌++◌}
use Rattle.std.proofs.Common.{length, take, drop, get_or, set, replicate, refl, sym, ap, ◌∙◌, arith}
use Rattle.std.specs.List.{All}
use Rattle.std.proofs.lemmas.List.{length-take-le, length-drop, drop-take, take-take, take-append-drop, take_at, drop_at}
use Rattle.std.proofs.lemmas.List.{append_assoc, append-nil, drop_all, drop_more, set_split, replicate-append-replicate}
use Rattle.std.proofs.lemmas.List.Sums.{sum_by-append}
use Rattle.std.proofs.lemmas.List.Concat.{flat_map-cons, flat_map-append}
use Rattle.std.proofs.lemmas.List.Elements.{All-replicate}
use Rattle.dmr_bits.specs.Bits.{number_of, bits_of, bits_of_octets, xor_bits, weight, part, put_at}
use Rattle.dmr_bits.specs.Words.{word_bits, bits_of_words, IsPacked, unpacked}
pub use Rattle.dmr_bits.specs.Packing.{packed_back}
use Rattle.dmr_bits.proofs.Lists.{number_of-bits_of, length-bits_of, take-xor_bits, length-xor_bits, weight-cons, weight-le}
use Rattle.dmr_bits.proofs.OctetFronts.{length-bits_of_octets, bits_of_octets-take}
use Rattle.dmr_bits.proofs.WordLists.{length-bits_of_words, bits_of_words-cons, bits_of_words-none, put_front, put_end}

-- how long the bits are
pub length-unpacked : (n : ℕ) (words : List ℕ) → IsPacked n words → length (unpacked n words) ≡ n
unfolding unpacked
length-unpacked n words h =
    let room : n ≤ length (bits_of_words words) = omega (arith, length-bits_of_words words, h.long, h.fits) in
    length-take-le n (bits_of_words words) room

-- what stands within the bits stands so within the words
pub read_unpacked : (n : ℕ) (words : List ℕ) (at width : ℕ) → IsPacked n words → at + width ≤ n
    → take width (drop at (unpacked n words)) ≡ take width (drop at (bits_of_words words))
unfolding unpacked
read_unpacked n words at width h room =
    let B : List Bool = bits_of_words words in
    let whole : at + (n - at) ≡ n = omega arith in
    ap (λ m. take width (drop at (take m B))) (sym whole)
    ∙ ap (take width) (drop-take at (n - at) B)
    ∙ take-take width (n - at) (drop at B) (omega arith)

-- the number of a field
pub field_unpacked : (n : ℕ) (words : List ℕ) (at width value : ℕ) → IsPacked n words → at + width ≤ n
    → bits_of width value ≡ take width (drop at (bits_of_words words)) → value < 2 ^ width
    → value ≡ number_of (take width (drop at (unpacked n words)))
field_unpacked n words at width value h room e p =
    sym (number_of-bits_of width value p) ∙ ap number_of (e ∙ sym (read_unpacked n words at width h room))

one_of : (value : ℕ) → value < 2 ^ 1 → bits_of 1 value ≡ (value == 1) ∷ []
one_of zero h = refl
one_of (suc zero) h = refl
one_of (suc (suc value)) h = absurd (omega arith)

-- the bit at a place
pub bit_unpacked : (n : ℕ) (words : List ℕ) (i value : ℕ) → IsPacked n words → i < n
    → bits_of 1 value ≡ take 1 (drop i (bits_of_words words)) → value < 2 ^ 1 → (value == 1) ≡ get_or (unpacked n words) i false
bit_unpacked n words i value h inside e p =
    let xs : List Bool = unpacked n words in
    let long : length xs ≡ n = length-unpacked n words h in
    let split : drop i xs ≡ get_or xs i false ∷ drop (i + 1) xs = drop_more xs i false (omega arith) in
    let both : (value == 1) ∷ [] ≡ get_or xs i false ∷ [] =
    sym (one_of value p) ∙ e ∙ sym (read_unpacked n words i 1 h (omega arith)) ∙ ap (take 1) split in
    ap (λ l. get_or l 0 false) both

-- a number written into words that hold bits
pub put_packed : (n : ℕ) (words new : List ℕ) (V : List Bool) (at width : ℕ) → IsPacked n words → length V ≡ width → at + width ≤ n
    → length new ≡ 5 → All (λ word. word < 2 ^ 64) new
    → bits_of_words new ≡ take at (bits_of_words words) ++ (V ++ drop (at + width) (bits_of_words words)) → IsPacked n new
put_packed n words new V at width h e room long small is =
    let all : n ≤ length (bits_of_words words) = omega (arith, length-bits_of_words words, h.long, h.fits) in
    record {
      long = long;
      small = small;
      fits = h.fits;
      clear = ap (drop n) is ∙ put_end n (bits_of_words words) V at width e room all ∙ h.clear;
    }

-- what is written into the words, within the bits that they hold, stands so in these bits too
pub put_unpacked : (n : ℕ) (words new : List ℕ) (V : List Bool) (at width : ℕ) → IsPacked n words → length V ≡ width
    → at + width ≤ n → bits_of_words new ≡ take at (bits_of_words words) ++ (V ++ drop (at + width) (bits_of_words words))
    → unpacked n new ≡ take at (unpacked n words) ++ V ++ drop (at + width) (unpacked n words)
unfolding unpacked
put_unpacked n words new V at width h e room is =
    let all : n ≤ length (bits_of_words words) = omega (arith, length-bits_of_words words, h.long, h.fits) in
    let xs : List Bool = take n (bits_of_words words) in
    ap (take n) is ∙ put_front n (bits_of_words words) V at width e room all
    ∙ sym (append_assoc (take at xs) V (drop (at + width) xs))

one_bit_of : (bit : Bool) → bits_of 1 (cond bit 1 0) ≡ bit ∷ []
one_bit_of true = refl
one_bit_of false = refl

-- a bit written into words that hold bits
pub set_unpacked : (n : ℕ) (words new : List ℕ) (i : ℕ) (bit : Bool) → IsPacked n words → i < n
    → bits_of_words new ≡ take i (bits_of_words words) ++ (bits_of 1 (cond bit 1 0) ++ drop (i + 1) (bits_of_words words))
    → unpacked n new ≡ set (unpacked n words) i bit
set_unpacked n words new i bit h inside is =
    let xs : List Bool = unpacked n words in
    let long : length xs ≡ n = length-unpacked n words h in
    let next : suc i ≡ i + 1 = omega arith in
    put_unpacked n words new (bits_of 1 (cond bit 1 0)) i 1 h (length-bits_of 1 (cond bit 1 0)) (omega arith) is
    ∙ ap (λ l. take i xs ++ l ++ drop (i + 1) xs) (one_bit_of bit)
    ∙ append_assoc (take i xs) (bit ∷ []) (drop (i + 1) xs)
    ∙ ap (λ m. take i xs ++ bit ∷ drop m xs) (sym next)
    ∙ sym (set_split xs i bit (omega arith))

zero_word : word_bits 0 ≡ replicate 64 false
unfolding word_bits
zero_word = refl

-- no bit is set
zeros_of : (count : ℕ) → bits_of_words (replicate count 0) ≡ replicate (64 * count) false
zeros_of zero = bits_of_words-none
zeros_of (suc count) =
    let e : 64 + 64 * count ≡ 64 * suc count = omega arith in
    bits_of_words-cons 0 (replicate count 0) ∙ ap (λ l. word_bits 0 ++ l) (zeros_of count)
    ∙ ap (λ l. l ++ replicate (64 * count) false) zero_word ∙ replicate-append-replicate 64 (64 * count) false
    ∙ ap (λ m. replicate m false) e

drop_same : (n m : ℕ) → drop n (replicate m false) ≡ replicate (m - n) false
drop_same zero m = (let e : m ≡ m - 0 = omega arith in ap (λ k. replicate k false) e)
drop_same (suc n) zero = (let e : 0 ≡ 0 - suc n = omega arith in ap (λ k. replicate k false) e)
drop_same (suc n) (suc m) = (let e : m - n ≡ suc m - suc n = omega arith in drop_same n m ∙ ap (λ k. replicate k false) e)

take_same : (n m : ℕ) → n ≤ m → take n (replicate m false) ≡ replicate n false
take_same zero m h = refl
take_same (suc n) zero h = absurd (omega arith)
take_same (suc n) (suc m) h = ap (λ l. false ∷ l) (take_same n m (omega arith))

-- five zero words are packed, for any count of bits that they have room for
pub zero_packed : (n : ℕ) → n ≤ 320 → IsPacked n (replicate 5 0)
zero_packed n h = record {
  long = refl;
  small = All-replicate (λ word. word < 2 ^ 64) 5 0 (omega arith);
  fits = h;
  clear = ap (drop n) (zeros_of 5) ∙ drop_same n 320;
}

-- the bits that five zero words hold are zeros
pub zero_unpacked : (n : ℕ) → n ≤ 320 → unpacked n (replicate 5 0) ≡ replicate n false
unfolding unpacked
zero_unpacked n h = ap (take n) (zeros_of 5) ∙ take_same n 320 h

-- sums of words that hold bits
xor_take : (n : ℕ) (xs ys : List Bool) → take n (xor_bits xs ys) ≡ xor_bits (take n xs) (take n ys)
xor_take n xs ys = take-xor_bits n xs ys

xor_drop : (n : ℕ) (xs ys : List Bool) → length xs ≡ length ys → drop n (xor_bits xs ys) ≡ xor_bits (drop n xs) (drop n ys)
xor_drop zero xs ys e = refl
xor_drop (suc n) [] ys e = refl
xor_drop (suc n) (x ∷ xs) [] e = absurd (omega arith)
xor_drop (suc n) (x ∷ xs) (y ∷ ys) e = xor_drop n xs ys (omega arith)

xor_clear : (m : ℕ) → xor_bits (replicate m false) (replicate m false) ≡ replicate m false
xor_clear zero = refl
xor_clear (suc m) = ap (λ l. false ∷ l) (xor_clear m)

same_length : (n : ℕ) (a b : List ℕ) → IsPacked n a → IsPacked n b → length (bits_of_words a) ≡ length (bits_of_words b)
same_length n a b h k = omega (arith, length-bits_of_words a, length-bits_of_words b, h.long, k.long)

-- five words of 64 bits whose bits are the sum of two packed ones' are packed too
pub sum_packed : (n : ℕ) (a b new : List ℕ) → IsPacked n a → IsPacked n b → length new ≡ 5 → All (λ word. word < 2 ^ 64) new
    → bits_of_words new ≡ xor_bits (bits_of_words a) (bits_of_words b) → IsPacked n new
sum_packed n a b new h k long small is = record {
  long = long;
  small = small;
  fits = h.fits;
  clear = ap (drop n) is ∙ xor_drop n (bits_of_words a) (bits_of_words b) (same_length n a b h k)
      ∙ ap (λ l. xor_bits l (drop n (bits_of_words b))) h.clear
      ∙ ap (xor_bits (replicate (320 - n) false)) k.clear
      ∙ xor_clear (320 - n);
}

-- words whose bits are the sum of two others' hold the sum of what these hold
pub sum_unpacked : (n : ℕ) (a b new : List ℕ) → bits_of_words new ≡ xor_bits (bits_of_words a) (bits_of_words b)
    → unpacked n new ≡ xor_bits (unpacked n a) (unpacked n b)
unfolding unpacked
sum_unpacked n a b new is = ap (take n) is ∙ xor_take n (bits_of_words a) (bits_of_words b)

weight_clear : (m : ℕ) → weight (replicate m false) ≡ 0
weight_clear zero = refl
weight_clear (suc m) = omega (arith, weight-cons false (replicate m false), weight_clear m)

pub ones_unpacked : (n : ℕ) (words : List ℕ) → IsPacked n words → weight (bits_of_words words) ≡ weight (unpacked n words)
unfolding unpacked
ones_unpacked n words h =
    let B : List Bool = bits_of_words words in
    ap weight (sym (take-append-drop n B))
    ∙ sum_by-append (λ b. cond b 1 0) (take n B) (drop n B)
    ∙ ap (λ m. weight (take n B) + m) (ap weight h.clear ∙ weight_clear (320 - n))
    ∙ (let e : weight (take n B) + 0 ≡ weight (take n B) = omega arith in e)

-- the words of a sum have as many ones as there are places in which the bits held differ
pub distance_unpacked : (n : ℕ) (a b new : List ℕ) → IsPacked n a → IsPacked n b → length new ≡ 5 → All (λ word. word < 2 ^ 64) new
    → bits_of_words new ≡ xor_bits (bits_of_words a) (bits_of_words b)
    → weight (bits_of_words new) ≡ weight (xor_bits (unpacked n a) (unpacked n b))
distance_unpacked n a b new h k long small is =
    ones_unpacked n new (sum_packed n a b new h k long small is) ∙ ap weight (sum_unpacked n a b new is)

-- the bits held by two packed lists of words differ in at most as many places as are held
pub distance_bound : (n : ℕ) (a b : List ℕ) → IsPacked n a → IsPacked n b → weight (xor_bits (unpacked n a) (unpacked n b)) ≤ n
distance_bound n a b h k =
    let e = length-xor_bits (unpacked n a) (unpacked n b) (length-unpacked n a h ∙ sym (length-unpacked n b k)) in
    omega (arith, weight-le (xor_bits (unpacked n a) (unpacked n b)), e, length-unpacked n a h)

-- octets in words
pub octets_packed : (n m : ℕ) (octets rest new : List ℕ) → 8 * m ≡ n → n ≤ 320 → length octets ≡ m → length new ≡ 5
    → All (λ word. word < 2 ^ 64) new → bits_of_words new ≡ bits_of_octets (octets ++ rest)
    → bits_of_octets rest ≡ replicate (320 - n) false → IsPacked n new
octets_packed n m octets rest new whole room long five small is clear = record {
  long = five;
  small = small;
  fits = room;
  clear = ap (drop n) (is ∙ flat_map-append (bits_of 8) octets rest)
      ∙ drop_at (bits_of_octets octets) (bits_of_octets rest) n (omega (arith, length-bits_of_octets octets))
      ∙ clear;
}

-- words with the bits of some octets in front hold these bits, where the octets fill what is held
pub octets_unpacked : (n m : ℕ) (octets rest new : List ℕ) → 8 * m ≡ n → length octets ≡ m
    → bits_of_words new ≡ bits_of_octets (octets ++ rest) → unpacked n new ≡ bits_of_octets octets
unfolding unpacked
octets_unpacked n m octets rest new whole long is =
    ap (take n) (is ∙ flat_map-append (bits_of 8) octets rest)
    ∙ take_at (bits_of_octets octets) (bits_of_octets rest) n (omega (arith, length-bits_of_octets octets))

pub clear_octets : (k : ℕ) → bits_of_octets (replicate k 0) ≡ replicate (8 * k) false
clear_octets zero = refl
clear_octets (suc k) =
    let e : 8 + 8 * k ≡ 8 * suc k = omega arith in
    flat_map-cons (bits_of 8) 0 (replicate k 0) ∙ ap (λ l. bits_of 8 0 ++ l) (clear_octets k)
    ∙ replicate-append-replicate 8 (8 * k) false ∙ ap (λ m. replicate m false) e

-- the octets of words that hold bits
pub spelled_unpacked : (n m : ℕ) (words all : List ℕ) → 8 * m ≡ n → IsPacked n words → length all ≡ 40
    → bits_of_octets all ≡ bits_of_words words → bits_of_octets (take m all) ≡ unpacked n words
unfolding unpacked
spelled_unpacked n m words all whole h long is =
    sym (bits_of_octets-take m all (omega (arith, h.fits))) ∙ ap (take (8 * m)) is ∙ ap (λ k. take k (bits_of_words words)) whole

-- a part of other bits, written
pub copied_part : (n m : ℕ) (words new other : List ℕ) (at from to : ℕ) → IsPacked n words → IsPacked m other → from ≤ to → to ≤ m
    → at + (to - from) ≤ n
    → bits_of_words new ≡ take at (bits_of_words words)
    ++ (take (to - from) (drop from (bits_of_words other)) ++ drop (at + (to - from)) (bits_of_words words))
    → unpacked n new ≡ put_at (unpacked n words) at (part (unpacked m other) from to)
copied_part n m words new other at from to h k order bound room is =
    let w : ℕ = to - from in
    let V : List Bool = take w (drop from (bits_of_words other)) in
    let same : V ≡ part (unpacked m other) from to = sym (read_unpacked m other from w k (omega arith)) in
    let long : length V ≡ w =
    length-take-le w (drop from (bits_of_words other))
    (omega (arith, length-drop from (bits_of_words other), length-bits_of_words other, k.long, k.fits)) in
    let wide : length (part (unpacked m other) from to) ≡ w = ap length (sym same) ∙ long in
    put_unpacked n words new V at w h long room is
    ∙ ap (λ l. take at (unpacked n words) ++ l ++ drop (at + w) (unpacked n words)) same
    ∙ ap (λ j. take at (unpacked n words) ++ part (unpacked m other) from to ++ drop (at + j) (unpacked n words)) (sym wide)

-- a part of the bits that words hold is as long as it is from its start to its end
pub copied_length : (m : ℕ) (other : List ℕ) (from to : ℕ) → IsPacked m other → from ≤ to → to ≤ m
    → length (take (to - from) (drop from (bits_of_words other))) ≡ to - from
copied_length m other from to k order bound =
    length-take-le (to - from) (drop from (bits_of_words other))
    (omega (arith, length-drop from (bits_of_words other), length-bits_of_words other, k.long, k.fits))

-- a part alone, in words that held nothing
pub part_packed : (n m : ℕ) (words new : List ℕ) (from to : ℕ) → IsPacked n words → from ≤ to → to ≤ n → to - from ≡ m
    → length new ≡ 5 → All (λ word. word < 2 ^ 64) new
    → bits_of_words new ≡ take 0 (bits_of_words (replicate 5 0))
    ++ (take (to - from) (drop from (bits_of_words words)) ++ drop (0 + (to - from)) (bits_of_words (replicate 5 0)))
    → IsPacked m new
part_packed n m words new from to h order bound fit long small is =
    put_packed m (replicate 5 0) new (take (to - from) (drop from (bits_of_words words))) 0 (to - from)
    (zero_packed m (omega (arith, h.fits))) (copied_length n words from to h order bound) (omega arith) long small is

-- zero words with a part of packed bits written to their front hold that part
pub part_unpacked : (n m : ℕ) (words new : List ℕ) (from to : ℕ) → IsPacked n words → from ≤ to → to ≤ n → to - from ≡ m
    → bits_of_words new ≡ take 0 (bits_of_words (replicate 5 0))
    ++ (take (to - from) (drop from (bits_of_words words)) ++ drop (0 + (to - from)) (bits_of_words (replicate 5 0)))
    → unpacked m new ≡ part (unpacked n words) from to
part_unpacked n m words new from to h order bound fit is =
    let clear : IsPacked m (replicate 5 0) = zero_packed m (omega (arith, h.fits)) in
    let all : List Bool = part (unpacked n words) from to in
    let long : length all ≡ to - from =
    ap length (read_unpacked n words from (to - from) h (omega arith)) ∙ copied_length n words from to h order bound in
    copied_part m n (replicate 5 0) new words 0 from to clear h order bound (omega arith) is
    ∙ ap (λ l. all ++ l) (drop_all (0 + length all) (unpacked m (replicate 5 0))
    (omega (arith, length-unpacked m (replicate 5 0) clear, long)))
    ∙ append-nil all

-- forty zero octets without the first ones have as many zeros as bits are left
pub drop_zeros : (n m : ℕ) → 8 * m ≡ n → n ≤ 320 → bits_of_octets (drop {A = ℕ} m (replicate 40 0)) ≡ replicate (320 - n) false
drop_zeros n m e h =
    let f : 8 * (40 - m) ≡ 320 - n = omega arith in
    ap bits_of_octets (drop_zero m 40) ∙ clear_octets (40 - m) ∙ ap (λ k. replicate k false) f
  where
    drop_zero : (i k : ℕ) → drop {A = ℕ} i (replicate k 0) ≡ replicate (k - i) 0
    drop_zero zero k = (let e : k ≡ k - 0 = omega arith in ap (λ j. replicate j 0) e)
    drop_zero (suc i) zero = (let e : 0 ≡ 0 - suc i = omega arith in ap (λ j. replicate j 0) e)
    drop_zero (suc i) (suc k) = (let e : k - i ≡ suc k - suc i = omega arith in drop_zero i k ∙ ap (λ j. replicate j 0) e)
