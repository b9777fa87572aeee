-- What stands in a place of a list that is made of others.
use Rattle.std.proofs.Common.{◌≡◌, ℕ, zero, suc, ◌+◌, ◌<◌, ◌≤◌, List, [], ◌∷◌, ◌++◌, map, drop, length, replicate, arith, subst}
use Rattle.std.proofs.Common.{get_or, ap, refl, take}
use Rattle.dmr_making.specs.Standing.{HoldsAt, StandsAt}

-- in front of a seam it is what stands there in the first list
pub at_left : {X : Type 0} (P : X → Type 0) (xs ys : List X) (k : ℕ) → k < length xs → HoldsAt P xs k → HoldsAt P (xs ++ ys) k
at_left P [] ys k lt h = absurd (omega arith)
at_left P (x ∷ xs) ys zero lt h = h
at_left P (x ∷ xs) ys (suc k) lt h = at_left P xs ys k (omega arith) h

-- and behind it what stands there in the second
pub at_right : {X : Type 0} (P : X → Type 0) (xs ys : List X) (j k : ℕ) → k ≡ length xs + j → HoldsAt P ys j
    → HoldsAt P (xs ++ ys) k
at_right P [] ys j k e h = let same : j ≡ k = omega arith in subst (HoldsAt P ys) same h
at_right P (x ∷ xs) ys j zero e h = absurd (omega arith)
at_right P (x ∷ xs) ys j (suc k) e h = at_right P xs ys j k (omega arith) h

-- the same of lists of which something is said past their end
pub stands_left : {X : Type 0} (P : X → Type 0) (Past : Type 0) (xs ys : List X) (k : ℕ) → k < length xs → HoldsAt P xs k
    → StandsAt P Past (xs ++ ys) k
stands_left P Past [] ys k lt h = absurd (omega arith)
stands_left P Past (x ∷ xs) ys zero lt h = h
stands_left P Past (x ∷ xs) ys (suc k) lt h = stands_left P Past xs ys k (omega arith) h

-- A place of the second list is a place of both, behind the first.
pub stands_right : {X : Type 0} (P : X → Type 0) (Past : Type 0) (xs ys : List X) (j k : ℕ) → k ≡ length xs + j
    → StandsAt P Past ys j → StandsAt P Past (xs ++ ys) k
stands_right P Past [] ys j k e h = let same : j ≡ k = omega arith in subst (StandsAt P Past ys) same h
stands_right P Past (x ∷ xs) ys j zero e h = absurd (omega arith)
stands_right P Past (x ∷ xs) ys j (suc k) e h = stands_right P Past xs ys j k (omega arith) h

-- so that it is one or the other
pub at_seam : {X : Type 0} (P : X → Type 0) (xs ys : List X) (k : ℕ) → (k < length xs → HoldsAt P xs k)
    → ((j : ℕ) → k ≡ length xs + j → HoldsAt P ys j) → HoldsAt P (xs ++ ys) k
at_seam P [] ys k front behind = behind k (omega arith)
at_seam P (x ∷ xs) ys zero front behind = front (omega arith)
at_seam P (x ∷ xs) ys (suc k) front behind =
    at_seam P xs ys k (λ lt. front (omega arith)) (λ j e. behind j (omega arith))

-- what is mapped
pub at_map : {A B : Type 0} (P : B → Type 0) (f : A → B) (xs : List A) (k : ℕ) → HoldsAt (λ x. P (f x)) xs k
    → HoldsAt P (map f xs) k
at_map P f [] k h = tt
at_map P f (x ∷ xs) zero h = h
at_map P f (x ∷ xs) (suc k) h = at_map P f xs k h

-- each of a list of equals
pub at_replicate : {X : Type 0} (P : X → Type 0) (n : ℕ) (x : X) (k : ℕ) → P x → HoldsAt P (replicate n x) k
at_replicate P zero x k h = tt
at_replicate P (suc n) x zero h = h
at_replicate P (suc n) x (suc k) h = at_replicate P n x k h

-- what is read there is what stands there
pub at_read : {X : Type 0} (P : X → Type 0) (xs : List X) (k : ℕ) (d : X) → P (get_or xs k d) → HoldsAt P xs k
at_read P [] k d h = tt
at_read P (x ∷ xs) zero d h = h
at_read P (x ∷ xs) (suc k) d h = at_read P xs k d h

-- behind the first so many
pub at_drop : {X : Type 0} (P : X → Type 0) (n : ℕ) (xs : List X) (j k : ℕ) → j ≡ n + k → HoldsAt P xs j → HoldsAt P (drop n xs) k
at_drop P zero xs j k e h = let same : j ≡ k = omega arith in subst (HoldsAt P xs) same h
at_drop P (suc n) [] j k e h = tt
at_drop P (suc n) (x ∷ xs) zero k e h = absurd (omega arith)
at_drop P (suc n) (x ∷ xs) (suc j) k e h = at_drop P n xs j k (omega arith) h

-- nothing stands past the end
pub at_past : {X : Type 0} (P : X → Type 0) (xs : List X) (k : ℕ) → length xs ≤ k → HoldsAt P xs k
at_past P [] k le = tt
at_past P (x ∷ xs) zero le = absurd (omega arith)
at_past P (x ∷ xs) (suc k) le = at_past P xs k (omega arith)

-- a list of one
pub at_one : {X : Type 0} (P : X → Type 0) (x : X) (k : ℕ) → P x → HoldsAt P (x ∷ []) k
at_one P x zero h = h
at_one P x (suc k) h = tt

-- the first of equals
pub take_same : {X : Type 0} (n m : ℕ) (x : X) → n ≤ m → take n (replicate m x) ≡ replicate n x
take_same zero m x le = refl
take_same (suc n) zero x le = absurd (omega arith)
take_same (suc n) (suc m) x le = ap (λ (l : List _). x ∷ l) (take_same n m x (omega arith))
