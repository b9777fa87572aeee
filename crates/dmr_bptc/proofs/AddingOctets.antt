-- One octet more of the information, and the words of a sum.
use Rattle.std.proofs.Common.{◌≡◌, ℕ, zero, suc, ◌+◌, ◌-◌, ◌*◌, ◌<◌, Bool, false, List, [], ◌∷◌, ◌++◌, length, take, drop}
use Rattle.std.proofs.Common.{replicate, refl, sym, ◌∙◌, ap, arith, get_or}
use Rattle.std.specs.Prelude.{bit_xor}
use Rattle.std.proofs.lemmas.List.{append_assoc, length-take-le, length-drop}
use Rattle.std.proofs.lemmas.List.{length-replicate}
use Rattle.std.proofs.lemmas.List.FromFn.{get_or-map-range_with_len}
use Rattle.dmr_bits.specs.Bits.{bits_of, number_of, octets_of, xor_bits}
use Rattle.dmr_bits.proofs.Lists.{length-bits_of, bits_of_spelled, xor_bits-append, xor_false, take_parts}
use Rattle.dmr_bits.proofs.Numbers.{bits_of_xor}
use Rattle.dmr_bptc.specs.Octets.{octet_alone, spelled}

-- zeros add nothing
pub xor_zeros : (x : List Bool) → xor_bits x (replicate (length x) false) ≡ x
xor_zeros [] = refl
xor_zeros (b ∷ x) = let head = xor_false b in let tail = xor_zeros x in cc

zeros_xor : (x : List Bool) → xor_bits (replicate (length x) false) x ≡ x
zeros_xor [] = refl
zeros_xor (b ∷ x) = ap (λ r. b ∷ r) (zeros_xor x)

more_zeros : (m n : ℕ) → replicate (m + n) false ≡ replicate m false ++ replicate n false
more_zeros zero n = (let e : 0 + n ≡ n = omega arith in ap (λ k. replicate k false) e)
more_zeros (suc m) n =
    let e : suc m + n ≡ suc (m + n) = omega arith in
    ap (λ k. replicate k false) e ∙ ap (λ r. false ∷ r) (more_zeros m n)

-- the octet at a place, from those of the bits
pub octet_at : (bits : List Bool) (p : ℕ) → length bits ≡ 96 → p < 12
    → bits_of 8 (get_or (octets_of 12 bits) p 0) ≡ take 8 (drop (8 * p) bits)
octet_at bits p long h =
    let wide : length (take 8 (drop (8 * p) bits)) ≡ 8 =
    length-take-le 8 (drop (8 * p) bits) (omega (arith, length-drop (8 * p) bits)) in
    ap (bits_of 8) (get_or-map-range_with_len (λ k. number_of (take 8 (drop (8 * k) bits))) 0 12 p p 0 h (omega arith))
    ∙ bits_of_spelled 8 (take 8 (drop (8 * p) bits)) wide

-- an octet is added behind those before it
pub front_more : (bits : List Bool) (p n : ℕ) → length bits ≡ 96 → p < 12 → bits_of 8 n ≡ take 8 (drop (8 * p) bits)
    → xor_bits (take (8 * p) bits ++ replicate (96 - 8 * p) false) (octet_alone p n)
    ≡ take (8 * (p + 1)) bits ++ replicate (96 - 8 * (p + 1)) false
front_more bits p n long h is =
    let b : ℕ = 88 - 8 * p in
    let F : List Bool = take (8 * p) bits in
    let N : List Bool = bits_of 8 n in
    let R : List Bool = replicate b false in
    let front : length F ≡ 8 * p = length-take-le (8 * p) bits (omega arith) in
    let octet : length N ≡ 8 = length-bits_of 8 n in
    let rest : 96 - 8 * p ≡ 8 + b = omega arith in
    let after : 8 * p + 8 ≡ 8 * (p + 1) = omega arith in
    let left : b ≡ 96 - 8 * (p + 1) = omega arith in
    let zeros : length F ≡ length (replicate (8 * p) false) = front ∙ sym (length-replicate (8 * p) false) in
    let eight : length (replicate 8 false) ≡ length N = sym octet in
    ap (λ k. xor_bits (F ++ replicate k false) (octet_alone p n)) rest
    ∙ ap (λ z. xor_bits (F ++ z) (octet_alone p n)) (more_zeros 8 b)
    ∙ xor_bits-append F (replicate 8 false ++ R) (replicate (8 * p) false) (N ++ R) zeros
    ∙ ap (λ x. x ++ xor_bits (replicate 8 false ++ R) (N ++ R))
    (ap (λ k. xor_bits F (replicate k false)) (sym front) ∙ xor_zeros F)
    ∙ ap (λ x. F ++ x)
    (xor_bits-append (replicate 8 false) R N R eight
    ∙ ap (λ x. x ++ xor_bits R R) (ap (λ k. xor_bits (replicate k false) N) (sym octet) ∙ zeros_xor N)
    ∙ ap (λ x. N ++ x) (ap (λ k. xor_bits R (replicate k false)) (sym (length-replicate b false)) ∙ xor_zeros R))
    ∙ sym (append_assoc F N R)
    ∙ ap (λ x. x ++ R) (ap (λ x. F ++ x) is ∙ sym (take_parts (8 * p) 8 bits))
    ∙ ap (λ k. take k bits ++ R) after
    ∙ ap (λ k. take (8 * (p + 1)) bits ++ replicate k false) left

-- the words of a sum
pub spelled_xor : (a b c d p q r s : ℕ)
    → spelled (bit_xor a p ∷ bit_xor b q ∷ bit_xor c r ∷ bit_xor d s ∷ [])
    ≡ xor_bits (spelled (a ∷ b ∷ c ∷ d ∷ [])) (spelled (p ∷ q ∷ r ∷ s ∷ []))
spelled_xor a b c d p q r s =
    let A : List Bool = bits_of 64 a in
    let B : List Bool = bits_of 64 b in
    let C : List Bool = bits_of 64 c in
    let D : List Bool = bits_of 4 d in
    let P : List Bool = bits_of 64 p in
    let Q : List Bool = bits_of 64 q in
    let R : List Bool = bits_of 64 r in
    let S : List Bool = bits_of 4 s in
    let first : length A ≡ length P = length-bits_of 64 a ∙ sym (length-bits_of 64 p) in
    let second : length B ≡ length Q = length-bits_of 64 b ∙ sym (length-bits_of 64 q) in
    let third : length C ≡ length R = length-bits_of 64 c ∙ sym (length-bits_of 64 r) in
    ap (λ x. x ++ (bits_of 64 (bit_xor b q) ++ (bits_of 64 (bit_xor c r) ++ bits_of 4 (bit_xor d s)))) (bits_of_xor 64 a p)
    ∙ ap (λ x. xor_bits A P ++ (x ++ (bits_of 64 (bit_xor c r) ++ bits_of 4 (bit_xor d s)))) (bits_of_xor 64 b q)
    ∙ ap (λ x. xor_bits A P ++ (xor_bits B Q ++ (x ++ bits_of 4 (bit_xor d s)))) (bits_of_xor 64 c r)
    ∙ ap (λ x. xor_bits A P ++ (xor_bits B Q ++ (xor_bits C R ++ x))) (bits_of_xor 4 d s)
    ∙ ap (λ x. xor_bits A P ++ (xor_bits B Q ++ x)) (sym (xor_bits-append C D R S third))
    ∙ ap (λ x. xor_bits A P ++ x) (sym (xor_bits-append B (C ++ D) Q (R ++ S) second))
    ∙ sym (xor_bits-append A (B ++ (C ++ D)) P (Q ++ (R ++ S)) first)
