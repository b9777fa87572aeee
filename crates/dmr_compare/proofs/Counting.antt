-- What is counted of two lists goes on, one by one.
use Rattle.std.proofs.Common.{◌≡◌, ℕ, ◌+◌, ◌-◌, ◌≤◌, Bool, true, false, not, cond, List, [], ◌∷◌, ◌++◌, length, drop}
use Rattle.std.proofs.Common.{if◌then◌else◌, Option, Some, None, refl, sym, ap, ◌∙◌, subst, arith, append-nil}
use Rattle.std.specs.List.{count_by, zip}
use Rattle.std.proofs.lemmas.List.{length_push, drop-append-le}
use Rattle.std.proofs.lemmas.List.Sums.{sum_by-append}
use Rattle.dmr_compare.specs.Counting.{AreCountsOf}
use Rattle.dmr_compare.specs.Taking.{counted_first, counted_found, counted_place, counted_second, found_next}
use Rattle.dmr_compare.specs.declared.counts.PlaceCounts.{PlaceCounts}

-- 1. Pairs.

-- two lists of one length with one more each have one more pair
pub zip_both : {X : Type 0} (xs ys : List X) (x y : X) → length xs ≡ length ys
    → zip (xs ++ x ∷ []) (ys ++ y ∷ []) ≡ zip xs ys ++ (x, y) ∷ []
zip_both [] [] x y e = refl
zip_both [] (b ∷ ys) x y e = absurd (omega arith)
zip_both (a ∷ xs) [] x y e = absurd (omega arith)
zip_both (a ∷ xs) (b ∷ ys) x y e = ap (λ l. (a, b) ∷ l) (zip_both xs ys x y (omega arith))

-- what stands behind the end of the second list has no pair
pub zip_first : {X : Type 0} (xs ys : List X) (x : X) → length ys ≤ length xs → zip (xs ++ x ∷ []) ys ≡ zip xs ys
zip_first [] [] x h = refl
zip_first [] (b ∷ ys) x h = absurd (omega arith)
zip_first (a ∷ xs) [] x h = refl
zip_first (a ∷ xs) (b ∷ ys) x h = ap (λ l. (a, b) ∷ l) (zip_first xs ys x (omega arith))

-- nor has what stands behind the end of the first
pub zip_second : {X : Type 0} (xs ys : List X) (y : X) → length xs ≤ length ys → zip xs (ys ++ y ∷ []) ≡ zip xs ys
zip_second [] ys y h = refl
zip_second (a ∷ xs) [] y h = absurd (omega arith)
zip_second (a ∷ xs) (b ∷ ys) y h = ap (λ l. (a, b) ∷ l) (zip_second xs ys y (omega arith))

-- one more is counted where it passes
pub count_push : {X : Type 0} (p : X → Bool) (xs : List X) (x : X) → count_by p (xs ++ x ∷ []) ≡ count_by p xs + cond (p x) 1 0
count_push p xs x =
    let split : count_by p (xs ++ x ∷ []) ≡ count_by p xs + count_by p (x ∷ []) =
    sum_by-append (λ y. cond (p y) 1 0) xs (x ∷ []) in
    let one : count_by p (x ∷ []) ≡ 0 + cond (p x) 1 0 = refl in
    omega (arith, split, one)

-- 2. Counts.

-- how many pairs are the same
abbrev pub same_of : {X : Type 0} → (X → X → Bool) → List (X × X) → ℕ
same_of is_same pairs = count_by (λ place. is_same place.0 place.1) pairs

-- how many pairs differ
abbrev pub different_of : {X : Type 0} → (X → X → Bool) → List (X × X) → ℕ
different_of is_same pairs = count_by (λ place. not (is_same place.0 place.1)) pairs

-- a place that both have
pub counted_both : {X : Type 0} (is_same : X → X → Bool) (xs ys : List X) (x y : X) (counts : PlaceCounts) → length xs ≡ length ys
    → AreCountsOf is_same xs ys counts
    → AreCountsOf is_same (xs ++ x ∷ []) (ys ++ y ∷ []) (counted_place (is_same x y) counts)
counted_both {X = X} is_same xs ys x y counts e h =
    let pairs = zip_both xs ys x y e in
    let same = count_push (λ (place : X × X). is_same place.0 place.1) (zip xs ys) (x, y) in
    let different = count_push (λ (place : X × X). not (is_same place.0 place.1)) (zip xs ys) (x, y) in
    let longer_xs = length_push xs x in
    let longer_ys = length_push ys y in
    let old_same : counts.same ≡ same_of is_same (zip xs ys) = h.same in
    let old_different : counts.different ≡ different_of is_same (zip xs ys) = h.different in
    let old_first : counts.only_in_first ≡ length xs - length ys = h.only_in_first in
    let old_second : counts.only_in_second ≡ length ys - length xs = h.only_in_second in
    record {
      same = added_same (is_same x y) counts.same _ old_same ∙ sym same ∙ ap (same_of is_same) (sym pairs);
      different = added_different (is_same x y) counts.different _ old_different ∙ sym different
          ∙ ap (different_of is_same) (sym pairs);
      only_in_first = omega (arith, old_first, longer_xs, longer_ys, e);
      only_in_second = omega (arith, old_second, longer_xs, longer_ys, e);
    }
  where
    added_same : (b : Bool) (m n : ℕ) → m ≡ n → (if b then m + 1 else m) ≡ n + cond b 1 0
    added_same true m n e = omega arith
    added_same false m n e = omega arith

    added_different : (b : Bool) (m n : ℕ) → m ≡ n → (if b then m else m + 1) ≡ n + cond (not b) 1 0
    added_different true m n e = omega arith
    added_different false m n e = omega arith

-- what the first has alone
pub counted_one : {X : Type 0} (is_same : X → X → Bool) (xs ys : List X) (x : X) (counts : PlaceCounts) → length ys ≤ length xs
    → AreCountsOf is_same xs ys counts → AreCountsOf is_same (xs ++ x ∷ []) ys (counted_first counts)
counted_one is_same xs ys x counts long h =
    let pairs = zip_first xs ys x long in
    let longer = length_push xs x in
    let old_first : counts.only_in_first ≡ length xs - length ys = h.only_in_first in
    let old_second : counts.only_in_second ≡ length ys - length xs = h.only_in_second in
    record {
      same = h.same ∙ ap (same_of is_same) (sym pairs);
      different = h.different ∙ ap (different_of is_same) (sym pairs);
      only_in_first = omega (arith, old_first, longer, long);
      only_in_second = omega (arith, old_second, longer, long);
    }

-- what the second has alone
pub counted_other : {X : Type 0} (is_same : X → X → Bool) (xs ys : List X) (y : X) (counts : PlaceCounts) → length xs ≤ length ys
    → AreCountsOf is_same xs ys counts → AreCountsOf is_same xs (ys ++ y ∷ []) (counted_second counts)
counted_other is_same xs ys y counts long h =
    let pairs = zip_second xs ys y long in
    let longer = length_push ys y in
    let old_first : counts.only_in_first ≡ length xs - length ys = h.only_in_first in
    let old_second : counts.only_in_second ≡ length ys - length xs = h.only_in_second in
    record {
      same = h.same ∙ ap (same_of is_same) (sym pairs);
      different = h.different ∙ ap (different_of is_same) (sym pairs);
      only_in_first = omega (arith, old_first, longer, long);
      only_in_second = omega (arith, old_second, longer, long);
    }

-- 3. What was found next.

-- there is something where there is
abbrev pub IsFound : {X : Type 0} → Option X → Type 0
IsFound None = ⊥
IsFound (Some found) = Unit {0}

-- what is found stands behind what is in front, where that was passed
pub dropped_found : {X : Type 0} (n : ℕ) (xs : List X) (found : Option X) → (IsFound found → n ≤ length xs)
    → drop n (xs ++ found_next found) ≡ drop n xs ++ found_next found
dropped_found n xs None h = ap (drop n) (append-nil xs) ∙ sym (append-nil (drop n xs))
dropped_found n xs (Some x) h = drop-append-le n xs (x ∷ []) (h tt)

-- what was found next in both is counted
pub counted_next : {X : Type 0} (is_same : X → X → Bool) (xs ys : List X) (first second : Option X) (counts : PlaceCounts)
    → (IsFound first → length ys ≤ length xs) → (IsFound second → length xs ≤ length ys)
    → AreCountsOf is_same xs ys counts
    → AreCountsOf is_same (xs ++ found_next first) (ys ++ found_next second) (counted_found is_same first second counts)
counted_next {X = X} is_same xs ys (Some x) (Some y) counts a b h =
    counted_both is_same xs ys x y counts (omega (arith, a tt, b tt)) h
counted_next {X = X} is_same xs ys (Some x) None counts a b h =
    subst (λ (l : List X). AreCountsOf is_same (xs ++ x ∷ []) l (counted_first counts)) (sym (append-nil ys))
    (counted_one is_same xs ys x counts (a tt) h)
counted_next {X = X} is_same xs ys None (Some y) counts a b h =
    subst (λ (l : List X). AreCountsOf is_same l (ys ++ y ∷ []) (counted_second counts)) (sym (append-nil xs))
    (counted_other is_same xs ys y counts (b tt) h)
counted_next {X = X} is_same xs ys None None counts a b h =
    subst (λ (l : List X). AreCountsOf is_same l (ys ++ []) counts) (sym (append-nil xs))
    (subst (λ (l : List X). AreCountsOf is_same xs l counts) (sym (append-nil ys)) h)
