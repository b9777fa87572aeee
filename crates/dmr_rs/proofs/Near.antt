-- Lists of octets that differ in few places.
use Rattle.std.proofs.Common.{◌≡◌, ◌≢◌, ℕ, zero, suc, ◌+◌, ◌≤◌, ◌<◌, ◌==◌, List, [], ◌∷◌, length}
use Rattle.std.proofs.Common.{refl, sym, ◌∙◌, ap, arith, get_or, set, inl, inr, eq-eqb, cond, true, false}
use Rattle.std.proofs.lemmas.Bool.{cases_eq, cases_lt, ne_eqb}
use Rattle.dmr_rs.specs.Word.{IsRsWord, octet_distance}
use Rattle.dmr_rs.proofs.Roots.{four_apart}

-- a list differs from itself in no place
pub no_distance : (x : List ℕ) → octet_distance x x ≡ 0
no_distance [] = refl
no_distance (a ∷ x) = rw (eq-eqb a a refl, no_distance x) refl

-- a list in which one octet is replaced differs from the list in at most one place
pub set_distance : (x : List ℕ) (i v : ℕ) → octet_distance (set x i v) x ≤ 1
set_distance [] i v = omega arith
set_distance (a ∷ x) zero v = rw (no_distance x) (elim (v == a) as (λ b. cond b 0 1 + 0 ≤ 1) [
  | true ↦ omega arith
  | false ↦ omega
      arith
])
set_distance (a ∷ x) (suc i) v = rw (eq-eqb a a refl) (let h = set_distance x i v in omega arith)

none_apart : (x y : List ℕ) → length x ≡ length y → octet_distance x y ≤ 0 → x ≡ y
none_apart [] [] e h = refl
none_apart [] (y ∷ ys) e h = absurd (omega arith)
none_apart (x ∷ xs) [] e h = absurd (omega arith)
none_apart (x ∷ xs) (y ∷ ys) e h =
    elim (cases_eq x y) [
      | inl same ↦
          let d : octet_distance xs ys ≤ 0 = let k = rw (eq-eqb x y same) at h in omega arith in
          let rest = none_apart xs ys (omega arith) d in cc
      | inr apart ↦ absurd (let k = rw (ne_eqb x y apart) at h in omega arith)
    ]

-- a list that differs from another in at most one place is that one with an octet written there
pub one_apart : (x y : List ℕ) → length x ≡ length y → octet_distance x y ≤ 1 → 0 < length y → (i : ℕ) × (i < length y) × (x ≡ set
    y i (get_or x i 0))
one_apart [] [] e h some = absurd (omega arith)
one_apart [] (y ∷ ys) e h some = absurd (omega arith)
one_apart (x ∷ xs) [] e h some = absurd (omega arith)
one_apart (x ∷ []) (y ∷ []) e h some = (0, omega arith, refl)
one_apart (x ∷ []) (y ∷ z ∷ ys) e h some = absurd (omega arith)
one_apart (x ∷ w ∷ xs) (y ∷ []) e h some = absurd (omega arith)
one_apart (x ∷ w ∷ xs) (y ∷ z ∷ ys) e h some =
    elim (cases_eq x y) [
      | inl same ↦
          let d : octet_distance (w ∷ xs) (z ∷ ys) ≤ 1 = let k = rw (eq-eqb x y same) at h in omega arith in
          let one = one_apart (w ∷ xs) (z ∷ ys) (omega arith) d (omega arith) in
          let rest = one.2 in
          (suc one.0, omega (arith, one.1), (cc))
      | inr apart ↦
          let d : octet_distance (w ∷ xs) (z ∷ ys) ≤ 0 = let k = rw (ne_eqb x y apart) at h in omega arith in
          (0, omega arith, ap (λ l. x ∷ l) (none_apart (w ∷ xs) (z ∷ ys) (omega arith) d))
    ]

place_triangle : (x y z : ℕ) → cond (x == y) 0 1 ≤ cond (x == z) 0 1 + cond (y == z) 0 1
place_triangle x y z =
    elim (cases_eq x y) [
      | inl same ↦ rw (eq-eqb x y same) (omega arith)
      | inr apart ↦ rw (ne_eqb x y apart) (elim (cases_eq x z) [
        | inl first ↦ rw (eq-eqb x z first, ne_eqb y z (λ second. apart (first ∙ sym second))) (omega arith)
        | inr other ↦ rw (ne_eqb x z other) (omega arith)
      ])
    ]

triangle : (x y z : List ℕ) → length x ≡ length z → length y ≡ length z → octet_distance x y ≤ octet_distance x z + octet_distance
    y z
triangle [] y z e f = omega arith
triangle (a ∷ x) [] z e f = omega arith
triangle (a ∷ x) (b ∷ y) [] e f = absurd (omega arith)
triangle (a ∷ x) (b ∷ y) (c ∷ z) e f =
    let here = place_triangle a b c in let rest = triangle x y z (omega arith) (omega arith) in omega arith

-- two words that aren't equal differ in at least four places
pub four_apart_or_equal : (word other : List ℕ) → length word ≡ 12 → length other ≡ 12 → IsRsWord word → IsRsWord other → word ≢
    other → 4 ≤ octet_distance word other
four_apart_or_equal word other long also is too differ =
    elim (cases_lt (octet_distance word other) 4) [
      | inl near ↦ absurd (differ (four_apart word other long also is too near))
      | inr far ↦ omega arith
    ]

-- two words that each differ from the same octets in at most one place are equal
pub one_within : (octets word other : List ℕ) → length octets ≡ 12 → length word ≡ 12 → length other ≡ 12 → IsRsWord word →
    IsRsWord other → octet_distance word octets ≤ 1 → octet_distance other octets ≤ 1 → word ≡ other
one_within octets word other count long also is too near close =
    let wide = triangle word other octets (long ∙ sym count) (also ∙ sym count) in
    four_apart word other long also is too (omega arith)
