-- Texts among others.
use Rattle.std.proofs.Common.{◌≡◌, Bool, true, List, Contains, refl, sym, ap}
use Rattle.std.specs.Bool.{Decides, one_answer}
use Rattle.std.specs.Cmp.{IsEquivalence}
use Rattle.std.specs.List.{list_any}
use Rattle.std.proofs.lemmas.Map.Views.{Contains-from_any, list_any-from_Contains}

module _ {T : Type 0} (E : T → T → Bool) (decides : (a b : T) → Decides (E a b) (a ≡ b)) where
  abbrev turned : T → T → Bool
  turned x y = E y x

  same : (x y : T) → turned x y ≡ true → x ≡ y
  same x y t = sym ((decides y x).0 t)

  equivalence : IsEquivalence turned
  equivalence = record {
    refl = λ x. (decides x x).1 refl;
    symm = λ x y. one_answer (E y x) (E x y) (same x y, λ e. (decides y x).1 (sym e)) (decides x y);
    congr = λ x y z t. ap (λ v. E z v) (same x y t);
  }

  -- It is tested whether an element is this one, one after the other: one of them is exactly where the list has it.
  pub found_among : (xs : List T) (x : T) → Decides (list_any (λ y. E y x) xs) (Contains xs x)
  found_among xs x = (Contains-from_any same x xs, list_any-from_Contains equivalence x xs)
