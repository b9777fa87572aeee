-- A statement changes the slot that was named last.
use Rattle.std.proofs.Common.{◌≡◌, sym, subst}
use Rattle.dmr_planning.specs.Planning.{ChangesSlot, Planned, planned_slot, with_slot}
use Rattle.dmr_planning.specs.Slots.{SlotSoFar}
use Rattle.dmr_script.specs.declared.statement.Slot.{Slot}

-- the slot of this name
pub changed : (Changes : SlotSoFar → SlotSoFar → Type 0) (slot : Slot) (old new : Planned) (x : SlotSoFar) → old.slot ≡ slot
    → Changes (planned_slot slot old) x → new ≡ with_slot slot old x → ChangesSlot Changes old new
changed Changes slot old new x e q is = (
  x,
  subst (λ (s : Slot). Changes (planned_slot s old) x) (sym e) q,
  subst (λ (s : Slot). new ≡ with_slot s old x) (sym e) is,
)
