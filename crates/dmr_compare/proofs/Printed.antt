-- Lines of places, one behind the other.
use Rattle.std.proofs.Common.{◌≡◌, ℕ, ◌≤◌, List, [], ◌∷◌, ◌++◌, length, Option, Some, None, refl, sym, ap, ◌∙◌, subst, arith}
use Rattle.std.proofs.Common.{append-nil, take, zero, suc, ◌||◌, Bool, true, false, Result, Ok, Err, IfOk, OnOk}
use Rattle.std.specs.List.{zip}
use Rattle.dmr_compare.proofs.Counting.{IsFound, zip_both, zip_first, zip_second}
use Rattle.dmr_compare.specs.Printed.{PutsDifference, PutsPlaces, PutsUnless}
use Rattle.dmr_compare.specs.Taking.{PutsFound, found_next}
use Rattle.dmr_lines.specs.Line.{first_line}

-- nothing is put of what is the same
pub put_same : (same quiet : Bool) (told : List ℕ) (h : Option (List ℕ)) → same ≡ true → PutsUnless (same || quiet) told h h
put_same same quiet told h e = subst (λ (b : Bool). PutsUnless (b || quiet) told h h) (sym e) refl

-- nor where differences are counted alone
pub put_quiet : (same quiet : Bool) (told : List ℕ) (h : Option (List ℕ)) → quiet ≡ true → PutsUnless (same || quiet) told h h
put_quiet same quiet told h e = subst (λ (b : Bool). PutsUnless (same || b) told h h) (sym e) (either same)
  where
    either : (b : Bool) → PutsUnless (b || true) told h h
    either true = refl
    either false = refl

-- two lines are put of what differs
pub put_different : (same quiet : Bool) (told ending : List ℕ) (h i : Option (List ℕ)) → same ≡ false → quiet ≡ false
    → ending ≡ told → PutsDifference ending h i → PutsUnless (same || quiet) told h i
put_different same quiet told ending h i differ loud e put =
    subst (λ (b : Bool). PutsUnless (b || quiet) told h i) (sym differ)
    (subst (λ (b : Bool). PutsUnless (false || b) told h i) (sym loud) (subst (λ (t : List ℕ). PutsDifference t h i) e put))

-- what holds where a call succeeds, and what follows from it
pub on_ok : {X E : Type 0} {P Q : Type 0} (r : Result X E) → (P → Q) → OnOk r P → OnOk r Q
on_ok (Ok x) f p = f p
on_ok (Err e) f p = tt

-- the same of what holds of its value
pub if_ok : {X E : Type 0} {P Q : X → Type 0} (r : Result X E) → IfOk r P → ((x : X) → P x → Q x) → IfOk r Q
if_ok (Ok x) p f = f x p
if_ok (Err e) p f = tt

-- the lines of some places were put, and then those of one more
pub put_one_more : {X : Type 0} (Puts : X × X → (old new : Option (List ℕ)) → Type 0) (places : List (X × X)) (place : X × X)
    (a b c : Option (List ℕ)) → PutsPlaces Puts places a b → Puts place b c
    → PutsPlaces Puts (places ++ place ∷ []) a c
put_one_more Puts [] place a b c none one =
    (c, subst (λ (o : Option (List ℕ)). Puts place o c) none one, refl)
put_one_more Puts (p ∷ places) place a b c (next, first, rest) one =
    (next, first, put_one_more Puts places place next b c rest one)

-- what is put of what was found next stands behind the lines of the places before
pub put_next : {X : Type 0} (Puts : X × X → (old new : Option (List ℕ)) → Type 0) (xs ys : List X) (first second : Option X)
    (a b c : Option (List ℕ))
    → (IsFound first → length ys ≤ length xs) → (IsFound second → length xs ≤ length ys)
    → PutsPlaces Puts (zip xs ys) a b → PutsFound Puts first second b c
    → PutsPlaces Puts (zip (xs ++ found_next first) (ys ++ found_next second)) a c
put_next {X = X} Puts xs ys (Some x) (Some y) a b c h h' put one =
    subst (λ (l : List (X × X)). PutsPlaces Puts l a c)
    (sym (zip_both xs ys x y (omega (arith, h tt, h' tt))))
    (put_one_more Puts (zip xs ys) (x, y) a b c put one)
put_next {X = X} Puts xs ys (Some x) None a b c h h' put one =
    subst (λ (l : List (X × X)). PutsPlaces Puts l a c)
    (sym (ap (λ (l : List X). zip (xs ++ x ∷ []) l) (append-nil ys) ∙ zip_first xs ys x (h tt)))
    (subst (λ (o : Option (List ℕ)). PutsPlaces Puts (zip xs ys) a o) (sym one) put)
put_next {X = X} Puts xs ys None (Some y) a b c h h' put one =
    subst (λ (l : List (X × X)). PutsPlaces Puts l a c)
    (sym (ap (λ (l : List X). zip l (ys ++ y ∷ [])) (append-nil xs) ∙ zip_second xs ys y (h' tt)))
    (subst (λ (o : Option (List ℕ)). PutsPlaces Puts (zip xs ys) a o) (sym one) put)
put_next {X = X} Puts xs ys None None a b c h h' put one =
    subst (λ (l : List (X × X)). PutsPlaces Puts l a c)
    (sym (ap (λ (l : List X). zip l (ys ++ [])) (append-nil xs) ∙ ap (λ (l : List X). zip xs l) (append-nil ys)))
    (subst (λ (o : Option (List ℕ)). PutsPlaces Puts (zip xs ys) a o) (sym one) put)

-- a front of a list isn't longer than the list
front_short : (n : ℕ) (l : List ℕ) → length (take n l) ≤ length l
front_short zero l = omega arith
front_short (suc n) [] = omega arith
front_short (suc n) (x ∷ l) = omega (arith, front_short n l)

-- the first line of a text isn't longer than the text
pub length_first_line : (text : List ℕ) → length (first_line text) ≤ length text
length_first_line text = front_short _ text
