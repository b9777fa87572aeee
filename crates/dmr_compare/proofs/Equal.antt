-- Two lists are equal exactly where they have one length and nothing differs.
use Rattle.std.proofs.Common.{◌≡◌, ℕ, ◌+◌, ◌==◌, ◌&&◌, Bool, true, false, not, cond, List, [], ◌∷◌, length, refl, sym, ap, ◌∙◌}
use Rattle.std.proofs.Common.{arith}
use Rattle.std.specs.List.{zip}
use Rattle.std.proofs.lemmas.Bool.{eq-eqb, eqb-true}
use Rattle.std.proofs.lemmas.List.Sums.{sum_by-cons}
use Rattle.dmr_compare.specs.Counting.{different_places}

-- how many places differ, with one pair in front
pub pairs_cons : {X : Type 0} (is_same : X → X → Bool) (x y : X) (xs ys : List X)
    → different_places is_same (x ∷ xs) (y ∷ ys) ≡ cond (not (is_same x y)) 1 0 + different_places is_same xs ys
pairs_cons {X = X} is_same x y xs ys =
    sum_by-cons (λ (place : X × X). cond (not (is_same place.0 place.1)) 1 0) (x, y) (zip xs ys)

-- where nothing is counted, these are the same, and nothing is counted of the rest
pub none_counted : (b : Bool) (n : ℕ) → cond (not b) 1 0 + n ≡ 0 → (b ≡ true) × (n ≡ 0)
none_counted true n e = (refl, omega arith)
none_counted false n e = absurd (omega arith)

-- two lists of one length without a difference are equal, where what is the same is equal
pub lists_equal : {X : Type 0} (is_same : X → X → Bool) → ((x y : X) → is_same x y ≡ true → x ≡ y) → (xs ys : List X)
    → different_places is_same xs ys ≡ 0 → length xs ≡ length ys → xs ≡ ys
lists_equal is_same each [] [] none long = refl
lists_equal is_same each [] (y ∷ ys) none long = absurd (omega arith)
lists_equal is_same each (x ∷ xs) [] none long = absurd (omega arith)
lists_equal is_same each (x ∷ xs) (y ∷ ys) none long =
    let first = none_counted (is_same x y) (different_places is_same xs ys) (sym (pairs_cons is_same x y xs ys) ∙ none) in
    ap (λ z. z ∷ xs) (each x y first.0) ∙ ap (λ l. y ∷ l) (lists_equal is_same each xs ys first.1 (omega arith))

-- a list has no difference from itself, where each is the same as itself
pub none_different : {X : Type 0} (is_same : X → X → Bool) → ((x : X) → is_same x x ≡ true) → (xs : List X)
    → different_places is_same xs xs ≡ 0
none_different is_same each [] = refl
none_different is_same each (x ∷ xs) =
    pairs_cons is_same x x xs xs ∙ ap (λ b. cond (not b) 1 0 + different_places is_same xs xs) (each x)
    ∙ (let rest : 0 + different_places is_same xs xs ≡ 0 = omega (arith, none_different is_same each xs) in rest)

-- both are true where each is
pub both_true : (a b : Bool) → a ≡ true → b ≡ true → (a && b) ≡ true
both_true a b e e' = ap (λ c. c && b) e ∙ e'

-- a number is the same as itself
pub same_number : (n : ℕ) → (n == n) ≡ true
same_number n = eq-eqb n n refl

-- numbers that are the same are equal
pub equal_numbers : (m n : ℕ) → (m == n) ≡ true → m ≡ n
equal_numbers m n e = eqb-true m n e
