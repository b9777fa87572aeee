-- Several bits at once: what leaves the register is added as one remainder.
use Rattle.std.proofs.Common.{◌≡◌, ℕ, zero, suc, ◌+◌, ◌-◌, ◌*◌, ◌/◌, ◌%◌, ◌^◌, ◌≤◌, ◌<◌, ◌==◌, Bool, true, false, List}
use Rattle.std.proofs.Common.{[], ◌∷◌, ◌++◌, length, refl, sym, ◌∙◌, ap, arith, replicate, get_or, eqb-true, take, drop}
use Rattle.std.specs.List.{list_all, range_with_len}
use Rattle.std.specs.Prelude.{bit_xor}
use Rattle.std.proofs.Math.Nat.{pow-le-pow_right}
use Rattle.std.proofs.lemmas.Bool.{both_ways}
use Rattle.std.proofs.lemmas.List.Folds.{list_all_at}
use Rattle.std.proofs.lemmas.List.FromFn.{length-range_with_len, get_or-range_with_len}
use Rattle.std.proofs.lemmas.Nat.{xor_lt, pow_pos, shr_below}
use Rattle.std.proofs.lemmas.List.{append_assoc, append-nil, length-append, take-append-drop}
use Rattle.dmr_bits.specs.Bits.{bits_of, number_of, xor, xor_bits}
use Rattle.dmr_bits.specs.Polynomials.{binary_field, add_front, scale}
use Rattle.dmr_bits.specs.Register.{shift_in, register_after}
use Rattle.dmr_bits.proofs.Lists.{length-bits_of, xor_bits-append, xor_bits_twice, xor_false}
use Rattle.dmr_bits.proofs.Lists.{number_of-lt, bits_of_spelled, bits_of_field, bits_of_none}
use Rattle.dmr_bits.proofs.Numbers.{bits_of_xor, bits_of_append}
use Rattle.dmr_bits.proofs.Widths.{bits_of-take, bits_of-drop, bits_of-mod}
use Rattle.dmr_bits.proofs.Dividing.{length-shift_in, length-run, run_append, scale_false}
use Rattle.dmr_checks.specs.Remainders.{are_remainders}
use Rattle.dmr_checks.proofs.Completes.{zeros_of}

xor_swap : (a b c : Bool) → xor a (xor b c) ≡ xor b (xor a c)
xor_swap true true c = refl
xor_swap true false c = refl
xor_swap false b c = refl

xor_both : (h a m : Bool) → xor (xor h a) (xor h m) ≡ xor a m
xor_both true true true = refl
xor_both true true false = refl
xor_both true false true = refl
xor_both true false false = refl
xor_both false a m = refl

-- a sum behind another that is added to its front
add_behind : (x q p : List Bool) → add_front binary_field x (xor_bits q p) ≡ xor_bits q (add_front binary_field x p)
add_behind [] q p = refl
add_behind (a ∷ x) [] p = refl
add_behind (a ∷ x) (b ∷ q) [] = refl
add_behind (a ∷ x) (b ∷ q) (c ∷ p) =
    let head = xor_swap a b c in let tail = add_behind x q p in cc

-- one place moves from the front to the end
xor_moved : (q a : List Bool) → length q ≡ length a → xor_bits q a ++ false ∷ [] ≡ xor_bits (q ++ false ∷ []) (a ++ false ∷ [])
xor_moved q a e = sym (xor_bits-append q (false ∷ []) a (false ∷ []) e)

-- what stands in the register's front and in the message alike only leaves
pub run_leaving : (low a m h l : List Bool) → length a ≡ length h + length l → length m ≡ length h
    → register_after binary_field low (xor_bits (h ++ l) a) (xor_bits h m)
    ≡ xor_bits (l ++ replicate (length h) false) (register_after binary_field low a m)
run_leaving low a [] [] l e f = ap (λ x. xor_bits x a) (sym (append-nil l))
run_leaving low a (m ∷ ms) [] l e f = absurd (omega arith)
run_leaving low a [] (h ∷ hs) l e f = absurd (omega arith)
run_leaving low [] (m ∷ ms) (h ∷ hs) l e f = absurd (omega arith)
run_leaving low (a ∷ rest) (m ∷ ms) (h ∷ hs) l e f =
    let front : List Bool = hs ++ l in
    let level : length front ≡ length rest = length-append hs l ∙ omega arith in
    let more : xor_bits front rest ++ false ∷ [] ≡ xor_bits (hs ++ (l ++ false ∷ [])) (rest ++ false ∷ []) =
    xor_moved front rest level ∙ ap (λ x. xor_bits x (rest ++ false ∷ [])) (append_assoc hs l (false ∷ [])) in
    let step : shift_in binary_field low (xor h a ∷ xor_bits front rest) (xor h m)
    ≡ xor_bits (hs ++ (l ++ false ∷ [])) (shift_in binary_field low (a ∷ rest) m) =
    ap (λ k. add_front binary_field (scale binary_field k low) (xor_bits front rest ++ false ∷ [])) (xor_both h a m)
    ∙ ap (add_front binary_field (scale binary_field (xor a m) low)) more
    ∙ add_behind (scale binary_field (xor a m) low) (hs ++ (l ++ false ∷ [])) (rest ++ false ∷ []) in
    let long : length (shift_in binary_field low (a ∷ rest) m) ≡ length hs + length (l ++ false ∷ []) =
    length-shift_in binary_field low (a ∷ rest) m ∙ (let o = length-append l (false ∷ []) in omega arith) in
    ap (λ r. register_after binary_field low r (xor_bits hs ms)) step
    ∙ run_leaving low (shift_in binary_field low (a ∷ rest) m) ms hs (l ++ false ∷ []) long (omega arith)
    ∙ ap (λ x. xor_bits x (register_after binary_field low (shift_in binary_field low (a ∷ rest) m) ms))
    (append_assoc l (false ∷ []) (replicate (length hs) false))

xor_zeros : (x : List Bool) → xor_bits x (replicate (length x) false) ≡ x
xor_zeros [] = refl
xor_zeros (b ∷ x) = let head = xor_false b in let tail = xor_zeros x in cc

one_more : (n : ℕ) → replicate n false ++ false ∷ [] ≡ replicate (suc n) false
one_more zero = refl
one_more (suc n) = ap (λ x. false ∷ x) (one_more n)

-- zeros leave an empty register empty
run_zeros : (low : List Bool) (n k : ℕ)
    → register_after binary_field low (replicate n false) (replicate k false) ≡ replicate n false
run_zeros low n zero = refl
run_zeros low zero (suc k) = run_zeros low zero k
run_zeros low (suc n) (suc k) =
    ap (λ r. register_after binary_field low r (replicate k false)) (scale_false low (replicate n false ++ false ∷ []) ∙ one_more n)
    ∙ run_zeros low (suc n) k

-- ---- the remainders of a table
holds : (b : Bool) → (b ≡ false → ⊥) → b ≡ true
holds true f = refl
holds false f = absurd (f refl)

all_below : (p : ℕ → Bool) (n i : ℕ) → list_all p (range_with_len 0 n) ≡ true → i < n → p i ≡ true
all_below p n i e h =
    let at : get_or (range_with_len 0 n) i 0 ≡ i = get_or-range_with_len 0 n i 0 h ∙ omega arith in
    let long : i < length (range_with_len 0 n) = rw length-range_with_len h in
    holds (p i)
    (λ f. both_ways (list_all p (range_with_len 0 n)) (list_all_at p (range_with_len 0 n) i 0 long (ap p at ∙ f)) e)

remainder : ℕ → ℕ → ℕ → List Bool
remainder d low octet = register_after binary_field (bits_of d low) (bits_of d 0) (bits_of 8 octet)

length-remainder : (d low octet : ℕ) → length (remainder d low octet) ≡ d
unfolding remainder
length-remainder d low octet = length-run binary_field (bits_of d low) (bits_of d 0) (bits_of 8 octet) ∙ length-bits_of d 0

remainder_is : (d low : ℕ) (table : List ℕ) (i : ℕ) → are_remainders d low table ≡ true → i < 256
    → get_or table i 0 ≡ number_of (remainder d low i)
unfolding remainder
remainder_is d low table i e h =
    eqb-true _ _
    (all_below (λ octet. get_or table octet 0
    == number_of (register_after binary_field (bits_of d low) (bits_of d 0) (bits_of 8 octet))) 256 i e h)

-- each entry of a table of remainders fits as many bits as the register has
pub remainder_fits : (d low : ℕ) (table : List ℕ) (i : ℕ) → are_remainders d low table ≡ true → i < 256 → get_or table i 0 < 2 ^ d
remainder_fits d low table i e h =
    rw (remainder_is d low table i e h) (rw length-remainder at (number_of-lt (remainder d low i)))

remainder_bits : (d low : ℕ) (table : List ℕ) (i : ℕ) → are_remainders d low table ≡ true → i < 256
    → bits_of d (get_or table i 0) ≡ remainder d low i
remainder_bits d low table i e h =
    ap (bits_of d) (remainder_is d low table i e h) ∙ bits_of_spelled d (remainder d low i) (length-remainder d low i)

-- ---- the register as a number
pub leaving_fits : (d w register number : ℕ) → w ≤ d → register < 2 ^ d → number < 2 ^ w
    → bit_xor (register / 2 ^ (d - w)) number < 2 ^ w
leaving_fits d w register number wide small h =
    let whole : w + (d - w) ≡ d = omega arith in
    xor_lt w (register / 2 ^ (d - w)) number (shr_below register w (d - w) (rw whole small)) h

-- at most eight bits that leave the register, with as many new ones added, are an octet
pub leaving_octet : (d w register number : ℕ) → w ≤ d → w ≤ 8 → register < 2 ^ d → number < 2 ^ w
    → bit_xor (register / 2 ^ (d - w)) number < 256
leaving_octet d w register number wide narrow small h =
    let fits = leaving_fits d w register number wide small h in
    let most : 2 ^ w ≤ 2 ^ 8 = pow-le-pow_right (omega arith) narrow in
    omega arith

-- fewer than eight bits leave what the octet that ends in them leaves
few : (d w low n : ℕ) → w ≤ 8 → n < 2 ^ w
    → register_after binary_field (bits_of d low) (bits_of d 0) (bits_of w n) ≡ remainder d low n
unfolding remainder
few d w low n narrow h =
    let L : List Bool = bits_of d low in
    let Z : List Bool = bits_of d 0 in
    let whole : 8 - w + w ≡ 8 = omega arith in
    let same : 0 * 2 ^ w + n ≡ n = omega arith in
    let octet : bits_of (8 - w) 0 ++ bits_of w n ≡ bits_of 8 n =
    bits_of_append (8 - w) w 8 0 n whole h ∙ ap (bits_of 8) same in
    let none : register_after binary_field L Z (bits_of (8 - w) 0) ≡ Z =
    ap (register_after binary_field L Z) (zeros_of (8 - w))
    ∙ ap (λ z. register_after binary_field L z (replicate (8 - w) false)) (zeros_of d)
    ∙ run_zeros L d (8 - w)
    ∙ sym (zeros_of d) in
    ap (λ z. register_after binary_field L z (bits_of w n)) (sym none)
    ∙ sym (run_append binary_field L Z (bits_of (8 - w) 0) (bits_of w n))
    ∙ ap (register_after binary_field L Z) octet

-- a number's bits by their front and their rest
pub front_and_rest : (d w register : ℕ) → w ≤ d
    → bits_of d register ≡ bits_of w (register / 2 ^ (d - w)) ++ bits_of (d - w) register
front_and_rest d w register wide =
    let whole : d ≡ w + (d - w) = omega arith in
    sym (take-append-drop w (bits_of d register))
    ∙ ap (λ x. x ++ drop w (bits_of d register)) (bits_of-take w (d - w) d register whole)
    ∙ ap (λ x. bits_of w (register / 2 ^ (d - w)) ++ x) (bits_of-drop w (d - w) d register whole)

rest_moved : (d w register : ℕ) → w ≤ d → bits_of (d - w) register ++ replicate w false ≡ bits_of d (register * 2 ^ w)
rest_moved d w register wide =
    let whole : d - w + w ≡ d = omega arith in
    let same : register * 2 ^ w + 0 ≡ register * 2 ^ w = omega arith in
    ap (λ x. bits_of (d - w) register ++ x) (sym (zeros_of w))
    ∙ bits_of_append (d - w) w d register 0 whole (pow_pos w)
    ∙ ap (bits_of d) same

-- the register moved up, with the table's entry for what leaves it added, is what it holds after the new bits
pub shifted_in : (d w low register number rest : ℕ) (table : List ℕ) → w ≤ d → w ≤ 8 → register < 2 ^ d → number < 2 ^ w
    → are_remainders d low table ≡ true → bits_of d rest ≡ bits_of d (register * 2 ^ w)
    → bits_of d (bit_xor rest (get_or table (bit_xor (register / 2 ^ (d - w)) number) 0))
    ≡ register_after binary_field (bits_of d low) (bits_of d register) (bits_of w number)
shifted_in d w low register number rest table wide narrow small h are is =
    let L : List Bool = bits_of d low in
    let Z : List Bool = bits_of d 0 in
    let front : List Bool = bits_of w (register / 2 ^ (d - w)) in
    let back : List Bool = bits_of (d - w) register in
    let leaving : ℕ = bit_xor (register / 2 ^ (d - w)) number in
    let fits : leaving < 2 ^ w = leaving_fits d w register number wide small h in
    let octet : leaving < 256 = leaving_octet d w register number wide narrow small h in
    let long : length front ≡ w = length-bits_of w (register / 2 ^ (d - w)) in
    let level : length front ≡ length (bits_of w number) = long ∙ sym (length-bits_of w number) in
    let places : length (bits_of d register) ≡ d = length-bits_of d register in
    let state : xor_bits (front ++ back) Z ≡ bits_of d register =
    ap (λ x. xor_bits x Z) (sym (front_and_rest d w register wide))
    ∙ ap (xor_bits (bits_of d register)) (zeros_of d ∙ ap (λ n. replicate n false) (sym places))
    ∙ xor_zeros (bits_of d register) in
    let message : xor_bits front (bits_of w leaving) ≡ bits_of w number =
    ap (xor_bits front) (bits_of_xor w (register / 2 ^ (d - w)) number) ∙ xor_bits_twice front (bits_of w number) level in
    let moved : back ++ replicate (length front) false ≡ bits_of d rest =
    ap (λ n. back ++ replicate n false) long ∙ rest_moved d w register wide ∙ sym is in
    let added : register_after binary_field L Z (bits_of w leaving) ≡ bits_of d (get_or table leaving 0) =
    few d w low leaving narrow fits ∙ sym (remainder_bits d low table leaving are octet) in
    bits_of_xor d rest (get_or table leaving 0)
    ∙ ap (λ x. xor_bits x (bits_of d (get_or table leaving 0))) (sym moved)
    ∙ ap (xor_bits (back ++ replicate (length front) false)) (sym added)
    ∙ sym (run_leaving L Z (bits_of w leaving) front back (length-bits_of d 0 ∙ sums) (length-bits_of w leaving ∙ sym long))
    ∙ ap (λ r. register_after binary_field L r (xor_bits front (bits_of w leaving))) state
    ∙ ap (register_after binary_field L (bits_of d register)) message
  where
    sums : d ≡ length (bits_of w (register / 2 ^ (d - w))) + length (bits_of (d - w) register)
    sums = omega (arith, length-bits_of w (register / 2 ^ (d - w)), length-bits_of (d - w) register)

-- ---- a message of 28 bits, seven at a time
pub next_bits : (low : List Bool) (part number : ℕ) (state next : List Bool) → part < 4
    → next ≡ register_after binary_field low state (bits_of 7 (number / 2 ^ (21 - 7 * part) % 128))
    → register_after binary_field low next (bits_of (28 - 7 * (part + 1)) number)
    ≡ register_after binary_field low state (bits_of (28 - 7 * part) number)
next_bits low part number state next h e =
    let left : 28 - 7 * part - 7 ≡ 21 - 7 * part = omega arith in
    let more : 28 - 7 * (part + 1) ≡ 21 - 7 * part = omega arith in
    let split : bits_of (28 - 7 * part) number ≡ bits_of 7 (number / 2 ^ (21 - 7 * part)) ++ bits_of (21 - 7 * part) number =
    front_and_rest (28 - 7 * part) 7 number (omega arith)
    ∙ ap (λ k. bits_of 7 (number / 2 ^ k) ++ bits_of k number) left in
    ap (λ k. register_after binary_field low next (bits_of k number)) more
    ∙ ap (λ r. register_after binary_field low r (bits_of (21 - 7 * part) number))
    (e ∙ ap (register_after binary_field low state) (bits_of-mod 7 (number / 2 ^ (21 - 7 * part))))
    ∙ sym (run_append binary_field low state (bits_of 7 (number / 2 ^ (21 - 7 * part))) (bits_of (21 - 7 * part) number))
    ∙ ap (register_after binary_field low state) (sym split)

-- once all four parts are in, the register is what it holds after the whole message of 28 bits
pub whole_message : (low empty state bits : List Bool) (number part : ℕ) → length bits ≡ 28
    → number ≡ number_of (take 28 (drop 0 bits)) → 4 ≤ part
    → register_after binary_field low state (bits_of (28 - 7 * part) number)
    ≡ register_after binary_field low empty (bits_of 28 number)
    → state ≡ register_after binary_field low empty bits
whole_message low empty state bits number part long is done rest =
    ap (register_after binary_field low state) (sym (bits_of_none (28 - 7 * part) number (omega arith)))
    ∙ rest
    ∙ ap (register_after binary_field low empty) (bits_of_field 28 bits number long is)
