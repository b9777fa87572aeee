-- Flags of blocks, and lists that grow beside one another.
use Rattle.std.specs.Option.{IsSome, option_map}
use Rattle.std.specs.Result.{IsOk, is_ok}
use Rattle.dmr_bits.specs.Packing.{pow_suc}
use Rattle.std.proofs.Common.{◌∙◌, refl, subst, sym, ap, Result, Ok, Option, Some, None, ◌≡◌, ℕ, zero, suc, ◌+◌, ◌*◌, ◌^◌, ◌<◌}
use Rattle.std.proofs.Common.{true, false, Bool, List, [], ◌∷◌, ◌++◌, arith}
use Rattle.std.specs.Bool.{if◌then◌else◌}
use Rattle.std.specs.List.{AllZip}
use Rattle.dmr_making.specs.Packets.{flags_from, is_among}

-- a flag and the flags behind it stay below their power of two
flag_below : (b : Bool) (n p : ℕ) → n < p → (if b then 0 else 1) + 2 * n < 2 * p
flag_below true n p lt = omega arith
flag_below false n p lt = omega arith

-- so many flags are below that power of two
pub flags_below : (serials : List ℕ) (serial n : ℕ) → flags_from serials serial n < 2 ^ n
flags_below serials serial zero = omega arith
flags_below serials serial (suc n) =
    subst (λ (x : ℕ). flags_from serials serial (suc n) < x) (sym (pow_suc n))
    (flag_below (is_among serials serial) (flags_from serials (suc serial) n) (2 ^ n) (flags_below serials (suc serial) n))

-- what is chosen
pub chosen : {X : Type 0} (b : Bool) (x y : X) → b ≡ true → (if b then x else y) ≡ x
chosen b x y e = ap (λ (c : Bool). if c then x else y) e

-- what was read as a value is one
pub ok_of : {T E : Type 0} (r : Result T E) (x : T) → r ≡ Ok x → IsOk r
ok_of r x e = ap is_ok e

-- Where a part of a value is there, the value is.
pub some_of : {T : Type 0} (o : Option T) (x : List ℕ) (f : T → List ℕ) → option_map f o ≡ Some x → IsSome o
some_of None x f e = absurd (cc)
some_of (Some y) x f e = refl

-- one more of each
pub zip_more : {A B : Type 0} (R : A → B → Type 0) (xs : List A) (ys : List B) (x : A) (y : B) → AllZip R xs ys → R x y
    → AllZip R (xs ++ x ∷ []) (ys ++ y ∷ [])
zip_more R [] [] x y z r = (r, tt)
zip_more R [] (b ∷ ys) x y z r = absurd z
zip_more R (a ∷ xs) [] x y z r = absurd z
zip_more R (a ∷ xs) (b ∷ ys) x y z r = (z.0, zip_more R xs ys x y z.1 r)

-- what was read is what stands there
pub map_of : {T : Type 0} (o : Option T) (y : T) (x : List ℕ) (f : T → List ℕ) → o ≡ Some y → option_map f o ≡ Some x → f y ≡ x
map_of None y x f p e = absurd (cc)
map_of (Some z) y x f p e = let same : z ≡ y = cc in let is : f z ≡ x = cc in ap f (sym same) ∙ is
