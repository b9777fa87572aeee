use Rattle.std.proofs.Common.{◌≡◌, true, false, Option, Some, None, refl}
use Rattle.std.specs.Prelude.{is_some, option_map}
use Rattle.std.proofs.lemmas.Bool.{both_ways}
use Rattle.dmr_slot.proofs.line.SlotLine.push_into.Goals as goal

-- what is made of nothing is nothing
made_of_none : {A B : Type 0} (f : A → B) (o : Option A) → is_some o ≡ false → option_map f o ≡ None
made_of_none f None e = refl
made_of_none f (Some a) e = absurd (both_ways true e refl)

pub returns-then-is_at_rest-clause-pushed : goal.returns-then-is_at_rest-clause-pushed
returns-then-is_at_rest-clause-pushed c =
    rw (made_of_none (λ slot. slot.now) c.args.slot c.if-is_none.ensures)
    (rw c.clear.ensures.free (c.is_at_rest.ensures.rests c.if-is_at_rest.true))
