use Rattle.std.proofs.Common.{◌≡◌, ℕ, List, [], ◌∷◌, Some, length, map, get_or, refl, arith}
use Rattle.dmr_damage.proofs.line.fields_carrying.Goals as goal

four : (r : List ℕ) → length r ≡ 4
    → Some (get_or r 0 0) ∷ Some (get_or r 1 0) ∷ Some (get_or r 2 0) ∷ Some (get_or r 3 0) ∷ [] ≡ map Some r
four [] e = absurd (omega arith)
four (a ∷ []) e = absurd (omega arith)
four (a ∷ b ∷ []) e = absurd (omega arith)
four (a ∷ b ∷ c ∷ []) e = absurd (omega arith)
four (a ∷ b ∷ c ∷ d ∷ []) e = refl
four (a ∷ b ∷ c ∷ d ∷ f ∷ more) e = absurd (omega arith)

pub returns : goal.returns
returns c = record {
  fields = λ before. (
    c.turned_fields.result,
    c.turned_fields.ensures.four,
    c.turned_fields.ensures.received,
    four c.turned_fields.result c.turned_fields.ensures.four,
  );
}
