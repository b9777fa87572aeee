-- The records of the outgoing list stand by their lines.
use Rattle.std.proofs.Common.{◌≡◌, ℕ, zero, suc, ◌+◌, ◌-◌, ◌<◌, List, [], ◌∷◌, ◌++◌, length, All, arith, get_or, Bool, sym}
use Rattle.std.proofs.Common.{subst}
use Rattle.std.proofs.Common.{ap, refl}
use Rattle.std.proofs.lemmas.List.Elements.{All-push}
use Rattle.std.proofs.lemmas.List.Sorted.{IsNonDecreasingBy-push, IsNonDecreasingBy-short}
use Rattle.std.specs.List.Sorted.{IsNonDecreasingBy, IsSortedByKey}
use Rattle.std.specs.Ordering.{nat_cmp}
use Rattle.dmr_planning.proofs.Ordering.{not_less}
use Rattle.dmr_planning.specs.Planning.{ArePlanned, Planned, Plans, number_of_slot, with_slot}
use Rattle.dmr_planning.specs.Sending.{said_number}
use Rattle.dmr_planning.specs.Slots.{SlotSoFar}
use Rattle.dmr_planning.specs.declared.sends.PlannedSend.{PlannedSend}
use Rattle.dmr_script.specs.declared.statement.NumberedStatement.{NumberedStatement}
use Rattle.dmr_script.specs.declared.statement.Slot.{Slot}
use Rattle.dmr_script.specs.declared.statement.Slot.TheVariants.{One, Two}
use Rattle.dmr_script.specs.declared.statement.Statement.{Statement}
use Rattle.dmr_script.specs.declared.statement.Statement.TheVariants as statement

-- They are of statements in front of this one, in their order.
pub record AreByLine (at : ℕ) (sends : List PlannedSend) : Type 0 where
  pub below : All (λ (s : PlannedSend). s.statement < at) sends
  pub rising : IsNonDecreasingBy said_number sends

later : (at : ℕ) (old new : List PlannedSend) → new ≡ old → AreByLine at old → AreByLine (suc at) new
later at old new e p = subst (AreByLine (suc at)) (sym e) (record {
  below = λ k d lt. let h = p.below k d lt in omega (arith, h);
  rising = p.rising;
})

one_more : (at : ℕ) (old new : List PlannedSend) (s : PlannedSend) → s.statement ≡ at → new ≡ old ++ s ∷ [] → AreByLine at old
    → AreByLine (suc at) new
one_more at old new s is e p = subst (AreByLine (suc at)) (sym e) (record {
  below = All-push (λ (x : PlannedSend). x.statement < suc at) old s (λ k d lt. let h = p.below k d lt in omega (arith, h))
      (omega (arith, is));
  rising = IsNonDecreasingBy-push said_number old s p.rising
      (λ d some. let h = p.below (length old - 1) d (omega (arith, some)) in omega (arith, h, is));
})

same_sends : (slot : Slot) (old new : Planned) (x : SlotSoFar) → new ≡ with_slot slot old x → new.sends ≡ old.sends
same_sends One old new x e = ap (λ (p : Planned). p.sends) e
same_sends Two old new x e = ap (λ (p : Planned). p.sends) e

step_by_line : (all : List NumberedStatement) (own : ℕ) (taken : Bool) (at line : ℕ) (s : Statement) (old new : Planned)
    → Plans all own taken at line s old new → AreByLine at old.sends → AreByLine (suc at) new.sends
step_by_line all own taken at line (statement.Colour colour) old new p f =
    later at old.sends new.sends (ap (λ (x : Planned). x.sends) p) f
step_by_line all own taken at line (statement.Slot slot) old new p f =
    later at old.sends new.sends (ap (λ (x : Planned). x.sends) p) f
step_by_line all own taken at line (statement.Silence count) old new p f =
    later at old.sends new.sends (same_sends old.slot old new p.0 p.2) f
step_by_line all own taken at line (statement.At frame) old new p f =
    later at old.sends new.sends (same_sends old.slot old new p.0 p.2) f
step_by_line all own taken at line (statement.Frames count) old new p f =
    later at old.sends new.sends (ap (λ (x : Planned). x.sends) p.1) f
step_by_line all own taken at line (statement.Transmit t) old new p f =
    later at old.sends new.sends (same_sends old.slot old new p.0 p.2) f
step_by_line all own taken at line (statement.Send s) old new p f =
    one_more at old.sends new.sends (record { statement = at; slot = number_of_slot old.slot; frame = s.frame }) refl
    (ap (λ (x : Planned). x.sends) p.2) f

-- What is planned to be sent stands in the order of its lines.
pub are_by_line : (all : List NumberedStatement) (own : ℕ) (taken : Bool) (at : ℕ) (p : Planned)
    → ArePlanned all own taken at p → AreByLine at p.sends
are_by_line all own taken zero p e = subst (λ (x : Planned). AreByLine 0 x.sends) (sym e) (record {
  below = λ k d lt. absurd (omega arith);
  rising = IsNonDecreasingBy-short said_number [] (omega arith);
})
are_by_line all own taken (suc at) p q =
    step_by_line all own taken at q.1.line q.1.statement q.0 p q.4 (are_by_line all own taken at q.0 q.3)

-- in the words of a sort
pub sorted_by_line : (sends : List PlannedSend) → IsNonDecreasingBy said_number sends → IsSortedByKey said_number nat_cmp sends
sorted_by_line sends rising = λ k d low lt.
    not_less (said_number (get_or sends k d)) (said_number (get_or sends (k + 1) d)) (rising k (k + 1) d (omega arith) lt)
