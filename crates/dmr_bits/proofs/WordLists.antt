-- The bits of words, read and written.
use Rattle.std.proofs.Common.{◌≡◌, ℕ, ◌+◌, ◌-◌, ◌*◌, ◌<◌, ◌≤◌, Bool, zero, suc, List, [], ◌∷◌, ◌++◌, length}
use Rattle.std.proofs.Common.{take, drop, get_or, set, sym, ap, ◌∙◌, arith}
use Rattle.std.proofs.lemmas.List.{take-append-drop, take-take, drop-take, drop-drop, append_assoc, take_at, drop_at, length-append}
use Rattle.std.proofs.lemmas.List.{length-take-le, length-set}
use Rattle.std.proofs.lemmas.List.Concat.{flat_map-append}
use Rattle.dmr_bits.specs.Words.{word_bits, bits_of_words}
pub use Rattle.dmr_bits.specs.Packing.{length-word_bits, bits_of_words-cons, bits_of_words-none, word_of}
use Rattle.dmr_bits.proofs.Lists.{take_parts}

-- the bits of two lists of words in a row are those of the first and then those of the second
pub bits_of_words-append : (ws vs : List ℕ) → bits_of_words (ws ++ vs) ≡ bits_of_words ws ++ bits_of_words vs
unfolding bits_of_words
bits_of_words-append ws vs = flat_map-append word_bits ws vs

-- words have 64 bits each
pub length-bits_of_words : (ws : List ℕ) → length (bits_of_words ws) ≡ 64 * length ws
length-bits_of_words [] = ap length bits_of_words-none
length-bits_of_words (w ∷ ws) =
    ap length (bits_of_words-cons w ws) ∙ length-append (word_bits w) (bits_of_words ws)
    ∙ omega (arith, length-word_bits w, length-bits_of_words ws)

-- the bits once a word is another
pub words_set : (ws : List ℕ) (i v : ℕ) → i < length ws
    → bits_of_words (set ws i v) ≡ take (64 * i) (bits_of_words ws) ++ (word_bits v ++ drop (64 * i + 64) (bits_of_words ws))
words_set [] i v h = absurd (omega arith)
words_set (w ∷ ws) zero v h =
    bits_of_words-cons v ws
    ∙ ap (λ l. word_bits v ++ l) (sym (drop_at (word_bits w) (bits_of_words ws) 64 (length-word_bits w))
    ∙ ap (drop 64) (sym (bits_of_words-cons w ws)))
words_set (w ∷ ws) (suc i) v h =
    let rest : List Bool = bits_of_words ws in
    let place : 64 * suc i ≡ 64 + 64 * i = omega arith in
    let past : 64 * suc i + 64 ≡ 64 + (64 * i + 64) = omega arith in
    let front : take (64 * suc i) (bits_of_words (w ∷ ws)) ≡ word_bits w ++ take (64 * i) rest =
    ap (λ n. take n (bits_of_words (w ∷ ws))) place ∙ ap (take (64 + 64 * i)) (bits_of_words-cons w ws)
    ∙ take_parts 64 (64 * i) (word_bits w ++ rest)
    ∙ ap (λ l. l ++ take (64 * i) (drop 64 (word_bits w ++ rest))) (take_at (word_bits w) rest 64 (length-word_bits w))
    ∙ ap (λ l. word_bits w ++ take (64 * i) l) (drop_at (word_bits w) rest 64 (length-word_bits w)) in
    let back : drop (64 * suc i + 64) (bits_of_words (w ∷ ws)) ≡ drop (64 * i + 64) rest =
    ap (λ n. drop n (bits_of_words (w ∷ ws))) past ∙ ap (drop (64 + (64 * i + 64))) (bits_of_words-cons w ws)
    ∙ sym (drop-drop (64 * i + 64) 64 (word_bits w ++ rest))
    ∙ ap (drop (64 * i + 64)) (drop_at (word_bits w) rest 64 (length-word_bits w)) in
    bits_of_words-cons w (set ws i v)
    ∙ ap (λ l. word_bits w ++ l) (words_set ws i v (omega arith))
    ∙ sym (append_assoc (word_bits w) (take (64 * i) rest) (word_bits v ++ drop (64 * i + 64) rest))
    ∙ ap (λ l. l ++ (word_bits v ++ drop (64 * i + 64) rest)) (sym front)
    ∙ ap (λ l. take (64 * suc i) (bits_of_words (w ∷ ws)) ++ (word_bits v ++ l)) (sym back)

-- bits within a stretch of a list
pub read_inside : (xs : List Bool) (p m r s : ℕ) → r + s ≤ m → take s (drop r (take m (drop p xs))) ≡ take s (drop (p + r) xs)
read_inside xs p m r s h =
    let D : List Bool = drop p xs in
    let whole : r + (m - r) ≡ m = omega arith in
    ap (λ n. take s (drop r (take n D))) (sym whole)
    ∙ ap (take s) (drop-take r (m - r) D)
    ∙ take-take s (m - r) (drop r D) (omega arith)
    ∙ ap (take s) (drop-drop r p xs)

-- bits written within a stretch of a list
pub put_inside : (xs V : List Bool) (p m r s : ℕ) → p + m ≤ length xs → r + s ≤ m
    → take p xs ++ ((take r (take m (drop p xs)) ++ (V ++ drop (r + s) (take m (drop p xs)))) ++ drop (p + m) xs) ≡ take (p + r) xs
    ++ (V ++ drop (p + r + s) xs)
put_inside xs V p m r s room h =
    let D : List Bool = drop p xs in
    let A : List Bool = take p xs in
    let R : List Bool = take r D in
    let front : take r (take m D) ≡ R = take-take r m D (omega arith) in
    let whole : r + s + (m - (r + s)) ≡ m = omega arith in
    let tail : drop (r + s) (take m D) ≡ take (m - (r + s)) (drop (r + s) D) =
    ap (λ n. drop (r + s) (take n D)) (sym whole) ∙ drop-take (r + s) (m - (r + s)) D in
    let place : p + m ≡ p + (r + s) + (m - (r + s)) = omega arith in
    let beyond : drop (p + m) xs ≡ drop (m - (r + s)) (drop (r + s) D) =
    ap (λ n. drop n xs) place ∙ sym (drop-drop (m - (r + s)) (p + (r + s)) xs)
    ∙ ap (drop (m - (r + s))) (sym (drop-drop (r + s) p xs)) in
    let joined : take (m - (r + s)) (drop (r + s) D) ++ drop (m - (r + s)) (drop (r + s) D) ≡ drop (r + s) D =
    take-append-drop (m - (r + s)) (drop (r + s) D) in
    let behind : drop (r + s) D ≡ drop (p + r + s) xs = drop-drop (r + s) p xs
    ∙ (let e : p + (r + s) ≡ p + r + s = omega arith in ap (λ n. drop n xs) e) in
    ap (λ l. A ++ ((l ++ (V ++ drop (r + s) (take m D))) ++ drop (p + m) xs)) front
    ∙ ap (λ l. A ++ ((R ++ (V ++ l)) ++ drop (p + m) xs)) tail
    ∙ ap (λ l. A ++ ((R ++ (V ++ take (m - (r + s)) (drop (r + s) D))) ++ l)) beyond
    ∙ ap (λ l. A ++ l) (append_assoc R (V ++ take (m - (r + s)) (drop (r + s) D)) (drop (m - (r + s)) (drop (r + s) D)))
    ∙ ap (λ l. A ++ (R ++ l)) (append_assoc V (take (m - (r + s)) (drop (r + s) D)) (drop (m - (r + s)) (drop (r + s) D)))
    ∙ ap (λ l. A ++ (R ++ (V ++ l))) (joined ∙ behind)
    ∙ sym (append_assoc A R (V ++ drop (p + r + s) xs))
    ∙ ap (λ l. l ++ (V ++ drop (p + r + s) xs)) (sym (take_parts p r xs))

-- two writes side by side are one
pub put_twice : (xs H L : List Bool) (at a b : ℕ) → length H ≡ a → at + a + b ≤ length xs
    → (let ys : List Bool = take at xs ++ (H ++ drop (at + a) xs) in take (at + a) ys ++ (L ++ drop (at + a + b) ys)) ≡ take at xs
    ++ ((H ++ L) ++ drop (at + a + b) xs)
put_twice xs H L at a b e room =
    let A : List Bool = take at xs in
    let ys : List Bool = A ++ (H ++ drop (at + a) xs) in
    let long : length A ≡ at = length-take-le at xs (omega arith) in
    let split : ys ≡ (A ++ H) ++ drop (at + a) xs = sym (append_assoc A H (drop (at + a) xs)) in
    let wide : length (A ++ H) ≡ at + a = omega (arith, length-append A H) in
    let front : take (at + a) ys ≡ A ++ H = ap (take (at + a)) split ∙ take_at (A ++ H) (drop (at + a) xs) (at + a) wide in
    let back : drop (at + a + b) ys ≡ drop (at + a + b) xs =
    sym (drop-drop b (at + a) ys) ∙ ap (drop b) (ap (drop (at + a)) split ∙ drop_at (A ++ H) (drop (at + a) xs) (at + a) wide)
    ∙ drop-drop b (at + a) xs in
    ap (λ l. l ++ (L ++ drop (at + a + b) ys)) front
    ∙ ap (λ l. (A ++ H) ++ (L ++ l)) back
    ∙ append_assoc A H (L ++ drop (at + a + b) xs)
    ∙ ap (λ l. A ++ l) (sym (append_assoc H L (drop (at + a + b) xs)))

-- a write at the front of a list does not see its end
pub put_front : (n : ℕ) (xs V : List Bool) (at w : ℕ) → length V ≡ w → at + w ≤ n → n ≤ length xs
    → take n (take at xs ++ (V ++ drop (at + w) xs)) ≡ take at (take n xs) ++ (V ++ drop (at + w) (take n xs))
put_front n xs V at w e room all =
    let A : List Bool = take at xs in
    let D : List Bool = drop (at + w) xs in
    let long : length (A ++ V) ≡ at + w =
    (let a : length A ≡ at = length-take-le at xs (omega arith) in omega (arith, length-append A V)) in
    let whole : at + w + (n - (at + w)) ≡ n = omega arith in
    let split : A ++ (V ++ D) ≡ (A ++ V) ++ D = sym (append_assoc A V D) in
    ap (λ m. take m (A ++ (V ++ D))) (sym whole)
    ∙ take_parts (at + w) (n - (at + w)) (A ++ (V ++ D))
    ∙ ap (λ l. take (at + w) l ++ take (n - (at + w)) (drop (at + w) l)) split
    ∙ ap (λ l. l ++ take (n - (at + w)) (drop (at + w) ((A ++ V) ++ D))) (take_at (A ++ V) D (at + w) long)
    ∙ ap (λ l. (A ++ V) ++ take (n - (at + w)) l) (drop_at (A ++ V) D (at + w) long)
    ∙ append_assoc A V (take (n - (at + w)) D)
    ∙ ap (λ l. l ++ (V ++ take (n - (at + w)) D)) (sym (take-take at n xs (omega arith)))
    ∙ ap (λ l. take at (take n xs) ++ (V ++ l)) (sym (drop-take (at + w) (n - (at + w)) xs)
    ∙ ap (λ m. drop (at + w) (take m xs)) whole)

-- bits written within the front of a list leave what is behind the front as it was
pub put_end : (n : ℕ) (xs V : List Bool) (at w : ℕ) → length V ≡ w → at + w ≤ n → n ≤ length xs
    → drop n (take at xs ++ (V ++ drop (at + w) xs)) ≡ drop n xs
put_end n xs V at w e room all =
    let A : List Bool = take at xs in
    let D : List Bool = drop (at + w) xs in
    let long : length (A ++ V) ≡ at + w =
    (let a : length A ≡ at = length-take-le at xs (omega arith) in omega (arith, length-append A V)) in
    let whole : at + w + (n - (at + w)) ≡ n = omega arith in
    ap (λ m. drop m (A ++ (V ++ D))) (sym whole)
    ∙ sym (drop-drop (n - (at + w)) (at + w) (A ++ (V ++ D)))
    ∙ ap (λ l. drop (n - (at + w)) (drop (at + w) l)) (sym (append_assoc A V D))
    ∙ ap (drop (n - (at + w))) (drop_at (A ++ V) D (at + w) long)
    ∙ drop-drop (n - (at + w)) (at + w) xs ∙ ap (λ m. drop m xs) whole

-- a number written within one word
pub put_in_word : (ws : List ℕ) (at q r width v : ℕ) (V : List Bool) → at ≡ 64 * q + r → q < length ws → r + width ≤ 64
    → word_bits v ≡ take r (word_bits (get_or ws q 0)) ++ (V ++ drop (r + width) (word_bits (get_or ws q 0)))
    → bits_of_words (set ws q v) ≡ take at (bits_of_words ws) ++ (V ++ drop (at + width) (bits_of_words ws))
put_in_word ws at q r width v V e inside room h =
    let B : List Bool = bits_of_words ws in
    let W : List Bool = word_bits (get_or ws q 0) in
    let T : List Bool = take 64 (drop (64 * q) B) in
    let is : W ≡ T = sym (word_of ws q inside) in
    let long : 64 * q + 64 ≤ length B = omega (arith, length-bits_of_words ws) in
    words_set ws q v inside
    ∙ ap (λ l. take (64 * q) B ++ (l ++ drop (64 * q + 64) B)) (h ∙ ap (λ l. take r l ++ (V ++ drop (r + width) l)) is)
    ∙ put_inside B V (64 * q) 64 r width long room
    ∙ ap (λ n. take n B ++ (V ++ drop (n + width) B)) (sym e)

-- a number written into two words that meet
pub put_in_two : (ws : List ℕ) (at q r a b v v' : ℕ) (H L : List Bool) → at ≡ 64 * q + r → q + 1 < length ws → r + a ≡ 64 → b ≤ 64
    → length H ≡ a → word_bits v ≡ take r (word_bits (get_or ws q 0)) ++ (H ++ drop (r + a) (word_bits (get_or ws q 0)))
    → word_bits v' ≡ take 0 (word_bits (get_or (set ws q v) (q + 1) 0))
    ++ (L ++ drop (0 + b) (word_bits (get_or (set ws q v) (q + 1) 0)))
    → bits_of_words (set (set ws q v) (q + 1) v') ≡ take at (bits_of_words ws) ++ ((H ++ L) ++ drop (at + a + b) (bits_of_words ws))
put_in_two ws at q r a b v v' H L e inside full room long h k =
    let B : List Bool = bits_of_words ws in
    let first : bits_of_words (set ws q v) ≡ take at B ++ (H ++ drop (at + a) B) =
    put_in_word ws at q r a v H e (omega arith) (omega arith) h in
    let again : at + a ≡ 64 * (q + 1) + 0 = omega arith in
    let wide : q + 1 < length (set ws q v) = omega (arith, length-set ws q v) in
    put_in_word (set ws q v) (at + a) (q + 1) 0 b v' L again wide (omega arith) k
    ∙ ap (λ l. take (at + a) l ++ (L ++ drop (at + a + b) l)) first
    ∙ put_twice B H L at a b long (omega (arith, length-bits_of_words ws))

-- a number read within one word
pub read_in_word : (ws : List ℕ) (at q r width : ℕ) → at ≡ 64 * q + r → q < length ws → r + width ≤ 64
    → take width (drop r (word_bits (get_or ws q 0))) ≡ take width (drop at (bits_of_words ws))
read_in_word ws at q r width e inside room =
    ap (λ l. take width (drop r l)) (sym (word_of ws q inside))
    ∙ read_inside (bits_of_words ws) (64 * q) 64 r width room
    ∙ ap (λ n. take width (drop n (bits_of_words ws))) (sym e)

-- a number read from two words that meet
pub read_in_two : (ws : List ℕ) (at q r a b : ℕ) → at ≡ 64 * q + r → q + 1 < length ws → r + a ≡ 64 → b ≤ 64
    → take a (drop r (word_bits (get_or ws q 0))) ++ take b (drop 0 (word_bits (get_or ws (q + 1) 0)))
    ≡ take (a + b) (drop at (bits_of_words ws))
read_in_two ws at q r a b e inside full room =
    let B : List Bool = bits_of_words ws in
    let again : at + a ≡ 64 * (q + 1) + 0 = omega arith in
    ap (λ l. l ++ take b (drop 0 (word_bits (get_or ws (q + 1) 0)))) (read_in_word ws at q r a e (omega arith) (omega arith))
    ∙ ap (λ l. take a (drop at B) ++ l) (read_in_word ws (at + a) (q + 1) 0 b again inside (omega arith)
    ∙ ap (take b) (sym (drop-drop a at B)))
    ∙ sym (take_parts a b (drop at B))

-- words that are small, with one that is another
pub small_set : (ws : List ℕ) (i v : ℕ) → i < length ws → ((k : ℕ) → get_or ws k 0 < 18446744073709551616)
    → v < 18446744073709551616 → (k : ℕ) → get_or (set ws i v) k 0 < 18446744073709551616
small_set [] i v h small p k = absurd (omega arith)
small_set (w ∷ ws) zero v h small p zero = p
small_set (w ∷ ws) zero v h small p (suc k) = small (suc k)
small_set (w ∷ ws) (suc i) v h small p zero = small zero
small_set (w ∷ ws) (suc i) v h small p (suc k) = small_set ws i v (omega arith) (λ j. small (suc j)) p k
