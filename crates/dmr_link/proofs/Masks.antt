-- The mask on the last three of twelve octets.
use Rattle.std.proofs.Common.{◌≡◌, ℕ, ◌+◌, ◌-◌, ◌≤◌, ◌<◌, ◌^◌, ◌==◌, Bool, true, false, List, []}
use Rattle.std.proofs.Common.{◌∷◌, ◌++◌, length, take, drop, map, get_or, bit_xor, if◌then◌else◌, refl, sym, ap, ◌∙◌, arith}
use Rattle.std.specs.List.{All}
use Rattle.std.specs.Int.Bits.{xor_assoc, xor_self, xor_zero_l}
use Rattle.std.proofs.lemmas.Nat.{xor_comm, xor_lt}
use Rattle.std.proofs.lemmas.Bool.{eqb-true, eq-eqb}
use Rattle.std.proofs.lemmas.List.{take_at, drop_at, take-append-drop, length-take-le, length-drop, length-append}
use Rattle.std.proofs.lemmas.List.{length-map, get_or-map, get_or-take, get_or-drop, get_or_append_left, get_or-append_right}
use Rattle.std.proofs.lemmas.List.Elements.{All-take, All-drop, All-append, All-map}
use Rattle.dmr_rs.specs.Word.{octet_distance}
use Rattle.dmr_link.specs.Sealed.{parity_mask, masked}
use Rattle.dmr_link.specs.declared.sealing.LcUse.{LcUse}
use Rattle.dmr_link.specs.declared.sealing.LcUse.TheVariants.{Header, Terminator}

-- one octet under the mask
abbrev veiled : LcUse → ℕ → ℕ
veiled lc_use octet = bit_xor octet (parity_mask lc_use)

-- a mask that is added twice is off again
twice : (x m : ℕ) → bit_xor (bit_xor x m) m ≡ x
twice x m = xor_assoc x m m ∙ ap (bit_xor x) (xor_self m) ∙ xor_comm x 0 ∙ xor_zero_l x

-- so it tells octets apart
apart : (x y m : ℕ) → (bit_xor x m == bit_xor y m) ≡ (x == y)
apart x y m =
    same_test (bit_xor x m == bit_xor y m) (x == y)
    (λ e. eq-eqb x y (sym (twice x m) ∙ ap (λ n. bit_xor n m) (eqb-true (bit_xor x m) (bit_xor y m) e) ∙ twice y m))
    (λ e. eq-eqb (bit_xor x m) (bit_xor y m) (ap (λ n. bit_xor n m) (eqb-true x y e)))
  where
    same_test : (a b : Bool) → (a ≡ true → b ≡ true) → (b ≡ true → a ≡ true) → a ≡ b
    same_test true b f g = sym (f refl)
    same_test false true f g = g refl
    same_test false false f g = refl

mask_of-lt : (lc_use : LcUse) → parity_mask lc_use < 2 ^ 8
mask_of-lt Header = omega arith
mask_of-lt Terminator = omega arith

length_front : (octets : List ℕ) → length octets ≡ 12 → length (take 9 octets) ≡ 9
length_front octets long = length-take-le 9 octets (omega arith)

-- twelve octets are twelve under the mask
pub length-masked : (lc_use : LcUse) (octets : List ℕ) → length octets ≡ 12 → length (masked lc_use octets) ≡ 12
length-masked lc_use octets long =
    length-append (take 9 octets) (map (veiled lc_use) (drop 9 octets))
    ∙ omega (arith, length_front octets long, length-map (drop 9 octets) (veiled lc_use), length-drop 9 octets)

-- the first nine octets stay as they are
pub take-masked : (lc_use : LcUse) (octets : List ℕ) → length octets ≡ 12 → take 9 (masked lc_use octets) ≡ take 9 octets
take-masked lc_use octets long = take_at (take 9 octets) (map (veiled lc_use) (drop 9 octets)) 9 (length_front octets long)

map_twice : (lc_use : LcUse) (octets : List ℕ) → map (veiled lc_use) (map (veiled lc_use) octets) ≡ octets
map_twice lc_use [] = refl
map_twice lc_use (o ∷ octets) = let head = twice o (parity_mask lc_use) in let tail = map_twice lc_use octets in cc

-- the mask taken twice gives twelve octets back
pub masked_twice : (lc_use : LcUse) (octets : List ℕ) → length octets ≡ 12 → masked lc_use (masked lc_use octets) ≡ octets
masked_twice lc_use octets long =
    ap (λ l. l ++ map (veiled lc_use) (drop 9 (masked lc_use octets))) (take-masked lc_use octets long)
    ∙ ap (λ l. take 9 octets ++ map (veiled lc_use) l) (drop_at (take 9 octets) (map (veiled lc_use) (drop 9 octets)) 9
    (length_front octets long))
    ∙ ap (λ l. take 9 octets ++ l) (map_twice lc_use (drop 9 octets))
    ∙ take-append-drop 9 octets

-- octets below 256 stay so under the mask
pub small-masked : (lc_use : LcUse) (octets : List ℕ) → All (λ octet. octet < 256) octets → All (λ octet. octet < 256) (masked
    lc_use octets)
small-masked lc_use octets small =
    let Small : ℕ → Type 0 = λ octet. octet < 256 in
    All-append Small (take 9 octets) (map (veiled lc_use) (drop 9 octets)) (All-take Small 9 octets small)
    (All-map Small (veiled lc_use) (drop 9 octets)
    (λ k d h. xor_lt 8 (get_or (drop 9 octets) k d) (parity_mask lc_use) (All-drop Small 9 octets small k d h) (mask_of-lt lc_use)))

-- by index
pub get_or-masked_front : (lc_use : LcUse) (octets : List ℕ) (k : ℕ) → length octets ≡ 12 → k < 9 → get_or (masked lc_use octets) k
    0 ≡ get_or octets k 0
get_or-masked_front lc_use octets k long h =
    get_or_append_left (take 9 octets) (map (veiled lc_use) (drop 9 octets)) 0 k (omega (arith, length_front octets long))
    ∙ get_or-take 9 octets k 0 h

-- the mask is added to each of the last three octets
pub get_or-masked_back : (lc_use : LcUse) (octets : List ℕ) (k : ℕ) → length octets ≡ 12 → 9 ≤ k → k < 12 → get_or (masked lc_use
    octets) k 0 ≡ bit_xor (get_or octets k 0) (parity_mask lc_use)
get_or-masked_back lc_use octets k long from to =
    let place : 9 + (k - 9) ≡ k = omega arith in
    get_or-append_right (take 9 octets) (map (veiled lc_use) (drop 9 octets)) 9 k 0 (length_front octets long) from
    ∙ get_or-map (veiled lc_use) (drop 9 octets) (k - 9) 0 0 (omega (arith, length-drop 9 octets))
    ∙ ap (veiled lc_use) (get_or-drop 9 octets (k - 9) 0 ∙ ap (λ n. get_or octets n 0) place)

-- ---- distances
pub distance-append : (a b x y : List ℕ) → length a ≡ length b → octet_distance (a ++ x) (b ++ y) ≡ octet_distance a b +
    octet_distance x y
distance-append [] [] x y e = omega arith
distance-append [] (q ∷ b) x y e = absurd (omega arith)
distance-append (p ∷ a) [] x y e = absurd (omega arith)
distance-append (p ∷ a) (q ∷ b) x y e =
    let rest = distance-append a b x y (omega arith) in
    ap (λ n. (if p == q then 0 else 1) + n) rest ∙ omega arith

distance-map : (lc_use : LcUse) (x y : List ℕ) → octet_distance (map (veiled lc_use) x) (map (veiled lc_use) y) ≡ octet_distance x y
distance-map lc_use [] y = refl
distance-map lc_use (p ∷ x) [] = refl
distance-map lc_use (p ∷ x) (q ∷ y) =
    ap (λ t. (if t then 0 else 1) + octet_distance (map (veiled lc_use) x) (map (veiled lc_use) y)) (apart p q (parity_mask lc_use))
    ∙ ap (λ n. (if p == q then 0 else 1) + n) (distance-map lc_use x y)

-- a mask on both changes no distance
pub distance-masked : (lc_use : LcUse) (a b : List ℕ) → length a ≡ 12 → length b ≡ 12 → octet_distance (masked lc_use a) (masked
    lc_use b) ≡ octet_distance a b
distance-masked lc_use a b long other =
    let fronts : length (take 9 a) ≡ length (take 9 b) = length_front a long ∙ sym (length_front b other) in
    distance-append (take 9 a) (take 9 b) (map (veiled lc_use) (drop 9 a)) (map (veiled lc_use) (drop 9 b)) fronts
    ∙ ap (λ n. octet_distance (take 9 a) (take 9 b) + n) (distance-map lc_use (drop 9 a) (drop 9 b))
    ∙ sym (distance-append (take 9 a) (take 9 b) (drop 9 a) (drop 9 b) fronts)
    ∙ ap (λ l. octet_distance l (take 9 b ++ drop 9 b)) (take-append-drop 9 a)
    ∙ ap (octet_distance a) (take-append-drop 9 b)
