-- Two readers stand beside each other, slot by slot or record by record.
use Rattle.std.proofs.Common.{◌≡◌, ℕ, ◌+◌, ◌≤◌, Bool, true, false, List, [], ◌∷◌, ◌++◌, length, drop, Option, Some, None, IfSome}
use Rattle.std.proofs.Common.{if◌then◌else◌, IfNone, refl, sym, ap, ◌∙◌, subst, arith, append-nil, length-append}
use Rattle.std.proofs.Common.{◌⊎◌, ◌<◌, inl, inr}
use Rattle.std.proofs.lemmas.List.{drop_all}
use Rattle.std.specs.List.{zip}
use Rattle.dmr_compare.proofs.Counting.{IsFound, counted_next, dropped_found, zip_first}
use Rattle.dmr_compare.proofs.Printed.{put_next}
use Rattle.dmr_compare.specs.Counting.{AreCountsOf}
use Rattle.dmr_compare.specs.Printed.{PutsPlaces}
use Rattle.dmr_compare.specs.Taking.{HasRoom, PutsFound, counted_found, found_next}
use Rattle.dmr_compare.specs.declared.counts.PlaceCounts.{PlaceCounts}

-- Two readers have read these, behind so many in front of each, and they were compared as far as both have them. The reader that
-- isn't at its end is not behind the other.
pub record StandBeside {X : Type 0} (is_same : X → X → Bool) (Puts : X × X → (old new : Option (List ℕ)) → Type 0)
    (front_first front_second : ℕ) (first_over second_over : Bool) (counts : PlaceCounts) (firsts seconds : List X)
    (held_old held_new : Option (List ℕ)) : Type 0 where
  pub first_front : first_over ≡ false → front_first ≤ length firsts
  pub second_front : second_over ≡ false → front_second ≤ length seconds
  pub first_beside : first_over ≡ false → length (drop front_second seconds) ≤ length (drop front_first firsts)
  pub second_beside : second_over ≡ false → length (drop front_first firsts) ≤ length (drop front_second seconds)
  pub counted : AreCountsOf is_same (drop front_first firsts) (drop front_second seconds) counts
  pub put : PutsPlaces Puts (zip (drop front_first firsts) (drop front_second seconds)) held_old held_new
  pub few_both : counts.same + counts.different ≤ length firsts
  pub few_first : counts.only_in_first ≤ length firsts
  pub few_second : counts.only_in_second ≤ length seconds

-- 1. A reader's step.

-- A reader took a step: it found something where it wasn't and isn't over, and nothing where it is over now.
pub record IsStep {X : Type 0} (was_over is_over : Bool) (found : Option X) : Type 0 where
  pub some : IfSome found (λ one. (was_over ≡ false) × (is_over ≡ false))
  pub none : IfNone found (is_over ≡ true)

-- what was found came where the reader wasn't over
pub was_going : {X : Type 0} (was_over is_over : Bool) (found : Option X) → IsStep was_over is_over found → IsFound found
    → was_over ≡ false
was_going was_over is_over None step f = absurd f
was_going was_over is_over (Some one) step f = step.some.0

-- where a reader isn't over, something was found
pub is_found : {X : Type 0} (was_over is_over : Bool) (found : Option X) → IsStep was_over is_over found → is_over ≡ false
    → IsFound found
is_found was_over is_over None step going = absurd (grind (arith, step.none, going))
is_found was_over is_over (Some one) step going = tt

-- one was found where there is something
pub one_found : {X : Type 0} (found : Option X) → IsFound found → length (found_next found) ≡ 1
one_found None f = absurd f
one_found (Some one) f = refl

-- and at most one
pub one_at_most : {X : Type 0} (found : Option X) → length (found_next found) ≤ 1
one_at_most None = omega arith
one_at_most (Some one) = omega arith

-- 2. What is counted of a step is at most what was found.

-- a place counts for something that was found in the first
pub few_places : {X : Type 0} (is_same : X → X → Bool) (first second : Option X) (counts : PlaceCounts)
    → (counted_found is_same first second counts).same + (counted_found is_same first second counts).different
    ≤ counts.same + counts.different + length (found_next first)
few_places is_same (Some x) (Some y) counts = either (is_same x y) counts.same counts.different
  where
    either : (b : Bool) (m n : ℕ) → (if b then m + 1 else m) + (if b then n else n + 1) ≤ m + n + 1
    either true m n = omega arith
    either false m n = omega arith
few_places is_same (Some x) None counts = omega arith
few_places is_same None (Some y) counts = omega arith
few_places is_same None None counts = omega arith

-- and so does what the first has alone
pub few_firsts : {X : Type 0} (is_same : X → X → Bool) (first second : Option X) (counts : PlaceCounts)
    → (counted_found is_same first second counts).only_in_first ≤ counts.only_in_first + length (found_next first)
few_firsts is_same (Some x) (Some y) counts = omega arith
few_firsts is_same (Some x) None counts = omega arith
few_firsts is_same None (Some y) counts = omega arith
few_firsts is_same None None counts = omega arith

-- what the second has alone counts for something that was found in it
pub few_seconds : {X : Type 0} (is_same : X → X → Bool) (first second : Option X) (counts : PlaceCounts)
    → (counted_found is_same first second counts).only_in_second ≤ counts.only_in_second + length (found_next second)
few_seconds is_same (Some x) (Some y) counts = omega arith
few_seconds is_same (Some x) None counts = omega arith
few_seconds is_same None (Some y) counts = omega arith
few_seconds is_same None None counts = omega arith

-- 3. A step of both.

-- two readers that stood beside each other do so behind a step of both
pub beside_next : {X : Type 0} (is_same : X → X → Bool) (Puts : X × X → (old new : Option (List ℕ)) → Type 0) (m n : ℕ)
    (one one' other other' : Bool) (counts : PlaceCounts) (firsts seconds : List X) (first second : Option X)
    (h i i' : Option (List ℕ)) → StandBeside is_same Puts m n one other counts firsts seconds h i
    → IsStep one one' first → IsStep other other' second → PutsFound Puts first second i i'
    → StandBeside is_same Puts m n one' other' (counted_found is_same first second counts) (firsts ++ found_next first)
    (seconds ++ found_next second) h i'
beside_next {X = X} is_same Puts m n one one' other other' counts firsts seconds first second h i i' stood step step' put =
    let e : drop m (firsts ++ found_next first) ≡ drop m firsts ++ found_next first =
    dropped_found m firsts first (λ f. stood.first_front (was_going one one' first step f)) in
    let e' : drop n (seconds ++ found_next second) ≡ drop n seconds ++ found_next second =
    dropped_found n seconds second (λ f. stood.second_front (was_going other other' second step' f)) in
    let long = length-append firsts (found_next first) in
    let long' = length-append seconds (found_next second) in
    let cut : length (drop m (firsts ++ found_next first)) ≡ length (drop m firsts) + length (found_next first) =
    ap length e ∙ length-append (drop m firsts) (found_next first) in
    let cut' : length (drop n (seconds ++ found_next second)) ≡ length (drop n seconds) + length (found_next second) =
    ap length e' ∙ length-append (drop n seconds) (found_next second) in
    record {
      first_front = λ going.
          let f = is_found one one' first step going in
          let before = stood.first_front (was_going one one' first step f) in
          omega (arith, before, long);
      second_front = λ going.
          let f = is_found other other' second step' going in
          let before = stood.second_front (was_going other other' second step' f) in
          omega (arith, before, long');
      first_beside = λ going.
          let f = is_found one one' first step going in
          let before = stood.first_beside (was_going one one' first step f) in
          omega (arith, before, cut, cut', one_found first f, one_at_most second);
      second_beside = λ going.
          let f = is_found other other' second step' going in
          let before = stood.second_beside (was_going other other' second step' f) in
          omega (arith, before, cut, cut', one_found second f, one_at_most first);
      counted = subst (λ (xs : List X). AreCountsOf is_same xs (drop n (seconds ++ found_next second))
          (counted_found is_same first second counts)) (sym e)
          (subst (λ (ys : List X). AreCountsOf is_same (drop m firsts ++ found_next first) ys
          (counted_found is_same first second counts)) (sym e')
          (counted_next is_same (drop m firsts) (drop n seconds) first second counts
          (λ f. stood.first_beside (was_going one one' first step f))
          (λ f. stood.second_beside (was_going other other' second step' f)) stood.counted));
      put = subst (λ (xs : List X). PutsPlaces Puts (zip xs (drop n (seconds ++ found_next second))) h i') (sym e)
          (subst (λ (ys : List X). PutsPlaces Puts (zip (drop m firsts ++ found_next first) ys) h i') (sym e')
          (put_next Puts (drop m firsts) (drop n seconds) first second h i i'
          (λ f. stood.first_beside (was_going one one' first step f))
          (λ f. stood.second_beside (was_going other other' second step' f)) stood.put put));
      few_both = omega (arith, stood.few_both, few_places is_same first second counts, long);
      few_first = omega (arith, stood.few_first, few_firsts is_same first second counts, long);
      few_second = omega (arith, stood.few_second, few_seconds is_same first second counts, long');
    }

-- they do so by whatever counts are the same
pub beside_by : {X : Type 0} (is_same : X → X → Bool) (Puts : X × X → (old new : Option (List ℕ)) → Type 0) (m n : ℕ)
    (one other : Bool) (counts counts' : PlaceCounts) (firsts seconds : List X) (h i : Option (List ℕ)) → counts' ≡ counts
    → StandBeside is_same Puts m n one other counts firsts seconds h i
    → StandBeside is_same Puts m n one other counts' firsts seconds h i
beside_by is_same Puts m n one other counts counts' firsts seconds h i e stood =
    subst (λ (k : PlaceCounts). StandBeside is_same Puts m n one other k firsts seconds h i) (sym e) stood

-- there is room for one more of each kind, where few were read
pub has_room : {X : Type 0} (is_same : X → X → Bool) (Puts : X × X → (old new : Option (List ℕ)) → Type 0) (m n : ℕ)
    (one other : Bool) (counts : PlaceCounts) (firsts seconds : List X) (h i : Option (List ℕ))
    → StandBeside is_same Puts m n one other counts firsts seconds h i → length firsts < 4294967295
    → length seconds < 4294967295 → HasRoom counts
has_room is_same Puts m n one other counts firsts seconds h i stood few few' =
    record {
      same = omega (arith, stood.few_both, few);
      different = omega (arith, stood.few_both, few);
      only_in_first = omega (arith, stood.few_first, few);
      only_in_second = omega (arith, stood.few_second, few');
    }

-- 4. The begin.

-- where nothing stands behind what is in front of one list, there are no places, and no lines
pub none_of_first : {X : Type 0} (Puts : X × X → (old new : Option (List ℕ)) → Type 0) (m : ℕ) (firsts ys : List X)
    (h : Option (List ℕ)) → length firsts ≤ m → PutsPlaces Puts (zip (drop m firsts) ys) h h
none_of_first {X = X} Puts m firsts ys h short =
    subst (λ (xs : List X). PutsPlaces Puts (zip xs ys) h h) (sym (drop_all m firsts short)) refl

-- nor where nothing stands behind what is in front of the other
pub none_of_second : {X : Type 0} (Puts : X × X → (old new : Option (List ℕ)) → Type 0) (n : ℕ) (xs seconds : List X)
    (h : Option (List ℕ)) → length seconds ≤ n → PutsPlaces Puts (zip xs (drop n seconds)) h h
none_of_second {X = X} Puts n xs seconds h short =
    subst (λ (ys : List X). PutsPlaces Puts (zip xs ys) h h) (sym (drop_all n seconds short)) (no_places xs)
  where
    no_places : (l : List X) → PutsPlaces Puts (zip l []) h h
    no_places [] = refl
    no_places (x ∷ l) = refl

-- and what has nothing behind that isn't further than anything
pub none_as_far : {X : Type 0} (m : ℕ) (xs others : List X) → length xs ≤ m → length (drop m xs) ≤ length others
none_as_far m xs others short =
    let empty : length (drop m xs) ≡ 0 = ap length (drop_all m xs short) in
    omega (arith, empty)

-- nothing is counted of nothing
pub counted_none : {X : Type 0} (is_same : X → X → Bool) (xs ys : List X) (counts : PlaceCounts) → xs ≡ [] → ys ≡ []
    → counts.same ≡ 0 → counts.different ≡ 0 → counts.only_in_first ≡ 0 → counts.only_in_second ≡ 0
    → AreCountsOf is_same xs ys counts
counted_none {X = X} is_same xs ys counts e e' same different first second =
    subst (λ (l : List X). AreCountsOf is_same l ys counts) (sym e)
    (subst (λ (l : List X). AreCountsOf is_same [] l counts) (sym e')
    (record { same = same; different = different; only_in_first = first; only_in_second = second }))

-- two readers behind what is in front stand beside each other
pub beside_begun : {X : Type 0} (is_same : X → X → Bool) (Puts : X × X → (old new : Option (List ℕ)) → Type 0) (m n : ℕ)
    (one other : Bool) (counts : PlaceCounts) (firsts seconds : List X) (h : Option (List ℕ))
    → length firsts ≤ m → length seconds ≤ n → (one ≡ false → length firsts ≡ m) → (other ≡ false → length seconds ≡ n)
    → counts.same ≡ 0 → counts.different ≡ 0 → counts.only_in_first ≡ 0 → counts.only_in_second ≡ 0
    → StandBeside is_same Puts m n one other counts firsts seconds h h
beside_begun is_same Puts m n one other counts firsts seconds h short short' whole whole' same different first second =
    let none : drop m firsts ≡ [] = drop_all m firsts short in
    let none' : drop n seconds ≡ [] = drop_all n seconds short' in
    let empty : length (drop m firsts) ≡ 0 = ap length none in
    let empty' : length (drop n seconds) ≡ 0 = ap length none' in
    record {
      first_front = λ going. (let e = whole going in omega (arith, e));
      second_front = λ going. (let e = whole' going in omega (arith, e));
      first_beside = λ going. omega (arith, empty, empty');
      second_beside = λ going. omega (arith, empty, empty');
      counted = counted_none is_same (drop m firsts) (drop n seconds) counts none none' same different first second;
      put = none_of_first Puts m firsts (drop n seconds) h short;
      few_both = omega (arith, same, different);
      few_first = omega (arith, first);
      few_second = omega (arith, second);
    }

-- 5. The end.

-- one of two holds, by whether an end was seen
pub by_end : {P Q : Type 0} (is_over : Bool) → (is_over ≡ false → P) → (is_over ≡ true → Q) → P ⊎ Q
by_end true f g = inr (g refl)
by_end false f g = inl (f refl)

-- what was found of the first alone makes no place
pub alone_no_place : {X : Type 0} (m : ℕ) (firsts ys : List X) (found : Option X)
    → (IsFound found → m ≤ length firsts) → (IsFound found → length ys ≤ length (drop m firsts))
    → zip (drop m (firsts ++ found_next found)) ys ≡ zip (drop m firsts) ys
alone_no_place m firsts ys None front beside = ap (λ l. zip (drop m l) ys) (append-nil firsts)
alone_no_place m firsts ys (Some one) front beside =
    ap (λ l. zip l ys) (dropped_found m firsts (Some one) front) ∙ zip_first (drop m firsts) ys one (beside tt)

-- so its lines are those of the places before
pub put_alone : {X : Type 0} (is_same : X → X → Bool) (Puts : X × X → (old new : Option (List ℕ)) → Type 0) (m n : ℕ)
    (one one' other : Bool) (counts : PlaceCounts) (firsts seconds : List X) (found : Option X) (h i : Option (List ℕ))
    → StandBeside is_same Puts m n one other counts firsts seconds h i → IsStep one one' found
    → PutsPlaces Puts (zip (drop m (firsts ++ found_next found)) (drop n seconds)) h i
put_alone {X = X} is_same Puts m n one one' other counts firsts seconds found h i stood step =
    subst (λ (l : List (X × X)). PutsPlaces Puts l h i)
    (sym (alone_no_place m firsts (drop n seconds) found (λ f. stood.first_front (was_going one one' found step f))
    (λ f. stood.first_beside (was_going one one' found step f))))
    stood.put

-- behind what was found of the first alone it was read as far as the second, or to its end
pub found_as_far : {X : Type 0} (is_same : X → X → Bool) (Puts : X × X → (old new : Option (List ℕ)) → Type 0) (m n : ℕ)
    (one one' other : Bool) (counts : PlaceCounts) (firsts seconds : List X) (found : Option X)
    (h i : Option (List ℕ)) {E : Type 0} → StandBeside is_same Puts m n one other counts firsts seconds h i
    → IsStep one one' found → (one' ≡ true → E)
    → (length (drop n seconds) ≤ length (drop m (firsts ++ found_next found))) ⊎ E
found_as_far is_same Puts m n one one' other counts firsts seconds None h i stood step end = inr (end step.none)
found_as_far is_same Puts m n one one' other counts firsts seconds (Some x) h i stood step end =
    let front = stood.first_front step.some.0 in
    let before = stood.first_beside step.some.0 in
    let more : length (drop m (firsts ++ x ∷ [])) ≡ length (drop m firsts) + 1 =
    ap length (dropped_found m firsts (Some x) (λ f. front)) ∙ length-append (drop m firsts) (x ∷ []) in
    inl (omega (arith, before, more))
