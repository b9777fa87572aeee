use Rattle.std.proofs.Common.{Bool, List, refl, sym, subst}
use Rattle.dmr_hearing.specs.Slots.{SentSlot}
use Rattle.dmr_making.proofs.CallSlots.{sent_headed}
use Rattle.dmr_making.specs.Calls.{slots_with, late_slots}
use Rattle.dmr_making.specs.Made.{IsMade}
use Rattle.dmr_making.specs.Standing.{HoldsAt}
use Rattle.dmr_script.specs.declared.shape.CallStart.{CallStart}
use Rattle.dmr_making.proofs.calls.call_slot.Goals as goal

pub returns-in-Headers : goal.returns-in-Headers
returns-in-Headers c = record {
  slot = λ forms p.
      let call = c.args.call.now in
      let P : SentSlot → Type 0 = λ slot. IsMade c.args.colour c.args.frame slot c.headed_slot.result in
      subst (λ (s : CallStart). HoldsAt P (slots_with c.args.colour call forms s) c.args.place) (sym c.in-Headers.is)
      (subst (λ (l : List SentSlot). HoldsAt P l c.args.place)
      (sym (sent_headed c.args.colour call forms c.in-Headers.headers call.shape.places.items refl))
      (c.headed_slot.ensures.slot forms p));
}

pub returns-in-Late : goal.returns-in-Late
returns-in-Late c = record {
  slot = λ forms p.
      let call = c.args.call.now in
      let P : SentSlot → Type 0 = λ slot. IsMade c.args.colour c.args.frame slot c.late_slot.result in
      subst (λ (s : CallStart). HoldsAt P (slots_with c.args.colour call forms s) c.args.place) (sym c.in-Late.is)
      (subst (λ (l : List Bool). HoldsAt P (late_slots c.args.colour call forms l) c.args.place) c.deref.ensures.value
      (c.late_slot.ensures.slot forms p));
}
