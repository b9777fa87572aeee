-- A product of octets is that of their polynomials modulo the field's.
use Rattle.std.proofs.Common.{◌≡◌, ℕ, ◌*◌, ◌/◌, ◌%◌, ◌<◌, ◌≤◌, ◌==◌, Bool, true, false, List, []}
use Rattle.std.proofs.Common.{◌∷◌, ◌++◌, length, replicate, take, drop, refl, sym, ◌∙◌, ap, subst, arith, cond}
use Rattle.std.specs.Prelude.{bit_xor}
use Rattle.std.proofs.Math.Bool.{◌&&◌, and-true}
use Rattle.dmr_bits.specs.Bits.{bits_of, xor, xor_bits}
use Rattle.dmr_bits.specs.Polynomials.{binary_field, add_front, scale, product, IsMultiple}
use Rattle.dmr_bits.proofs.Lists.{xor_assoc, xor_self, xor_false, length-xor_bits, xor_bits_twice, xor_bits-append}
use Rattle.dmr_bits.proofs.Numbers.{bits_of_xor, bits_of_mod, bits_of_same}
use Rattle.dmr_bits.proofs.Dividing.{binary_laws, product_step, add_front_twice, add_front_joined, add_front_none}
use Rattle.dmr_bits.proofs.Dividing.{add_front_to_nones, add_front_bits, scale_true, scale_false, only_completion}
use Rattle.std.proofs.lemmas.List.{take-append-drop, length-take-le, length-drop}
use Rattle.dmr_bits.specs.Register.{register_after}
use Rattle.dmr_rs.specs.Field.{times_x, times, IsProduct}
use Rattle.dmr_rs.proofs.Field.{low_bits, sum_over}

-- ---- sums of lists of bits
xor_between : (a b c : Bool) → xor a (xor b c) ≡ xor b (xor a c)
xor_between true true c = refl
xor_between true false c = refl
xor_between false b c = refl

add_front_swap : (a b x : List Bool) → add_front binary_field a (add_front binary_field b x) ≡ add_front binary_field b (add_front
    binary_field a x)
add_front_swap [] b x = refl
add_front_swap (p ∷ a) [] x = refl
add_front_swap (p ∷ a) (q ∷ b) [] = refl
add_front_swap (p ∷ a) (q ∷ b) (r ∷ x) = let head = xor_between p q r in let tail = add_front_swap a b x in cc

add_front-xor_bits : (a x z : List Bool) → add_front binary_field a (xor_bits x z) ≡ xor_bits (add_front binary_field a x) z
add_front-xor_bits [] x z = refl
add_front-xor_bits (p ∷ a) [] z = refl
add_front-xor_bits (p ∷ a) (r ∷ x) [] = refl
add_front-xor_bits (p ∷ a) (r ∷ x) (c ∷ z) = let head = xor_assoc p r c in let tail = add_front-xor_bits a x z in cc

xor_bits_self : (x : List Bool) → xor_bits x x ≡ replicate (length x) false
xor_bits_self [] = refl
xor_bits_self (p ∷ x) = let head = xor_self p in let tail = xor_bits_self x in cc

-- ---- one bit of the first factor
reduction_bits : (p : Bool) → bits_of 8 (cond p 0x1D 0) ≡ scale binary_field p (bits_of 8 0x1D)
reduction_bits true = refl
reduction_bits false = refl

chosen_bits : (p : Bool) (b : ℕ) → bits_of 8 (cond p b 0) ≡ scale binary_field p (bits_of 8 b)
chosen_bits true b = sym (scale_true (bits_of 8 b))
chosen_bits false b = refl

-- the bits of the next sum
next_bits : (s b : ℕ) (p : Bool) → bits_of 8 (bit_xor (times_x s) (cond p b 0))
    ≡ add_front binary_field
    (add_front binary_field (bits_of 7 s ++ false ∷ []) (scale binary_field (s / 128 % 2 == 1) (bits_of 8 0x1D)))
    (scale binary_field p (bits_of 8 b))
next_bits s b p =
    let h : Bool = (s / 128 % 2 == 1) in
    let t : List Bool = bits_of 7 s ++ false ∷ [] in
    let r : List Bool = scale binary_field h (bits_of 8 0x1D) in
    let k : List Bool = scale binary_field p (bits_of 8 b) in
    bits_of_xor 8 (times_x s) (cond p b 0)
    ∙ ap (xor_bits (bits_of 8 (times_x s))) (chosen_bits p b)
    ∙ ap (λ l. xor_bits l k)
    (bits_of_xor 8 (2 * s % 256) (cond h 0x1D 0) ∙ ap (λ l. xor_bits l (bits_of 8 (cond h 0x1D 0))) (low_bits s)
    ∙ ap (xor_bits t) (reduction_bits h) ∙ sym (add_front_bits t r refl))
    ∙ sym (add_front_bits (add_front binary_field t r) k refl)

-- for each sum so far and bits of the first factor that are left
product_by : (b : ℕ) (m : List Bool) (s : ℕ) → IsMultiple binary_field (true ∷ bits_of 8 0x1D)
    (xor_bits (add_front binary_field (bits_of 8 s) (false ∷ product binary_field m (bits_of 8 b))) (replicate (length m) false ++
    bits_of 8 (sum_over m b s)))
product_by b [] s =
    let none : add_front binary_field (bits_of 8 s) (replicate 8 false) ≡ bits_of 8 s = add_front_to_nones binary_laws (bits_of 8
    s) in
    ([], sym (ap (λ l. xor_bits l (bits_of 8 s)) none ∙ xor_bits_self (bits_of 8 s)))
product_by b (p ∷ m) s =
    let h : Bool = (s / 128 % 2 == 1) in
    let t : List Bool = bits_of 7 s ++ false ∷ [] in
    let r : List Bool = scale binary_field h (bits_of 8 0x1D) in
    let k : List Bool = scale binary_field p (bits_of 8 b) in
    let y : List Bool = false ∷ product binary_field m (bits_of 8 b) in
    let next : ℕ = bit_xor (times_x s) (cond p b 0) in
    let z : List Bool = replicate (length m) false ++ bits_of 8 (sum_over m b next) in
    let ends = product_by b m next in
    let joined : add_front binary_field (bits_of 8 next) y ≡ add_front binary_field t (add_front binary_field r (add_front
    binary_field k y)) =
    ap (λ l. add_front binary_field l y) (next_bits s b p)
    ∙ sym (add_front_joined binary_laws (add_front binary_field t r) k y (omega arith))
    ∙ sym (add_front_joined binary_laws t r (add_front binary_field k y) (omega arith)) in
    let back : add_front binary_field r (add_front binary_field (bits_of 8 next) y) ≡ add_front binary_field (bits_of 7 s)
    (add_front binary_field k y) =
    ap (add_front binary_field r) joined ∙ add_front_swap r t (add_front binary_field r (add_front binary_field k y))
    ∙ ap (add_front binary_field t) (add_front_twice binary_laws r (add_front binary_field k y))
    ∙ add_front_none binary_laws (bits_of 7 s) (add_front binary_field k y) in
    let tail : add_front binary_field r (product binary_field ends.0 (true ∷ bits_of 8 0x1D)) ≡ xor_bits (add_front binary_field
    (bits_of 7 s) (add_front binary_field k y)) z =
    ap (add_front binary_field r) ends.1
    ∙ add_front-xor_bits r (add_front binary_field (bits_of 8 next) y) z ∙ ap (λ l. xor_bits l z) back in
    let head : (h && true) ≡ xor (xor h false) false = and-true h ∙ sym (xor_false h) ∙ sym (xor_false (xor h false)) in (
      h ∷ ends.0,
      product_step binary_laws h ends.0 (bits_of 8 0x1D) ∙ (let both : (h && true) ∷ add_front binary_field r (product
          binary_field ends.0 (true ∷ bits_of 8 0x1D)) ≡ xor (xor h false) false ∷ xor_bits (add_front binary_field (bits_of 7 s)
          (add_front binary_field k y)) z = cc in both),
    )

-- a multiple with a highest coefficient of none
without_first : (m : List Bool) → 8 ≤ length m → IsMultiple binary_field (true ∷ bits_of 8 0x1D) (false ∷ m) → IsMultiple
    binary_field (true ∷ bits_of 8 0x1D) m
without_first m long ([], e) = absurd (let l = ap length e in omega arith)
without_first m long (k ∷ q, e) =
    let both : (k && true) ∷ add_front binary_field (scale binary_field k (bits_of 8 0x1D)) (product binary_field q (true ∷ bits_of
    8 0x1D)) ≡ false ∷ m =
    sym (product_step binary_laws k q (bits_of 8 0x1D)) ∙ e in
    let first : (k && true) ≡ false = cc in
    let rest : add_front binary_field (scale binary_field k (bits_of 8 0x1D)) (product binary_field q (true ∷ bits_of 8 0x1D)) ≡ m
    = cc in
    let none : k ≡ false = sym (and-true k) ∙ first in (
      q,
      sym (scale_false (bits_of 8 0x1D) (product binary_field q (true ∷ bits_of 8 0x1D)))
          ∙ ap (λ j. add_front binary_field (scale binary_field j (bits_of 8 0x1D)) (product binary_field q (true ∷ bits_of 8
          0x1D))) (sym none) ∙ rest,
    )

-- what is computed as a product of two octets is their product in the field
pub product_is : (a b : ℕ) → IsProduct a b (times a b)
unfolding IsProduct times
product_is a b =
    let P : List Bool → Type 0 = λ l. IsMultiple binary_field (true ∷ bits_of 8 0x1D) (xor_bits (product binary_field (bits_of 8 a)
    l) (replicate 7 false ++ bits_of 8 (sum_over (bits_of 8 a) (b % 256) 0))) in
    let m : List Bool = xor_bits (product binary_field (bits_of 8 a) (bits_of 8 (b % 256))) (replicate 7 false ++ bits_of 8
    (sum_over (bits_of 8 a) (b % 256) 0)) in
    let long : length m ≡ 15 = refl in
    subst P (bits_of_mod 8 8 b (omega arith)) (without_first m (omega arith) (product_by (b % 256) (bits_of 8 a) 0))

-- ---- no other octet is the product
remainder_is : (p c : List Bool) → length p ≡ 15 → length c ≡ 8 → IsMultiple binary_field (true ∷ bits_of 8 0x1D) (xor_bits p
    (replicate 7 false ++ c))
    → xor_bits (drop 7 p) c ≡ register_after binary_field (bits_of 8 0x1D) (replicate 8 false) (xor_bits (take 7 p) (replicate 7
    false))
remainder_is p c long eight multiple =
    let front : length (take 7 p) ≡ 7 = length-take-le 7 p (omega arith) in
    let back : length (drop 7 p) ≡ 8 = length-drop 7 p ∙ omega arith in
    let split : xor_bits p (replicate 7 false ++ c) ≡ xor_bits (take 7 p) (replicate 7 false) ++ xor_bits (drop 7 p) c =
    ap (λ l. xor_bits l (replicate 7 false ++ c)) (sym (take-append-drop 7 p))
    ∙ xor_bits-append (take 7 p) (drop 7 p) (replicate 7 false) c front in
    only_completion binary_laws (bits_of 8 0x1D) (xor_bits (take 7 p) (replicate 7 false)) (xor_bits (drop 7 p) c) (omega arith)
    (length-xor_bits (drop 7 p) c (back ∙ sym eight) ∙ back) (multiple.0, multiple.1 ∙ split)

-- there is only one octet that is the product of two octets in the field
pub only_product : (a b c d : ℕ) → c < 256 → d < 256 → IsProduct a b c → IsProduct a b d → c ≡ d
unfolding IsProduct
only_product a b c d small little is too =
    let p : List Bool = product binary_field (bits_of 8 a) (bits_of 8 b) in
    let long : length p ≡ 15 = refl in
    let back : length (drop 7 p) ≡ 8 = refl in
    let first = remainder_is p (bits_of 8 c) long refl is in
    let second = remainder_is p (bits_of 8 d) long refl too in
    bits_of_same 8 c d small little
    (sym (xor_bits_twice (drop 7 p) (bits_of 8 c) back) ∙ ap (xor_bits (drop 7 p)) (first ∙ sym second) ∙ xor_bits_twice (drop 7 p)
    (bits_of 8 d) back)
