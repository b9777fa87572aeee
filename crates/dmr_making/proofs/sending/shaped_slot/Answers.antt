use Rattle.std.proofs.Common.{ℕ, List, Bool, sym, subst}
use Rattle.dmr_hearing.specs.Slots.{SentSlot}
use Rattle.dmr_making.specs.Made.{IsMade}
use Rattle.dmr_making.specs.Sends.{Transmitted}
use Rattle.dmr_making.specs.Standing.{HoldsAt}
use Rattle.dmr_making.specs.Tries.{IsFitTry, AreTryForms, try_slots}
use Rattle.dmr_making.proofs.sending.shaped_slot.Goals as goal

pub try_slot-requires : goal.try_slot-requires
try_slot-requires c = record {
  colour = c.requires.colour;
  fit = subst (λ (l : List Bool). IsFitTry c.args.t.now c.args.shape.now.preambles l) (sym c.deref.ensures.value) c.requires.fit;
}

pub returns : goal.returns
returns c = record {
  slot = λ frame sent p.
      let t = c.args.t.now in
      let preambles : ℕ = c.args.shape.now.preambles in
      let P : SentSlot → Type 0 = λ slot. IsMade c.args.colour frame slot c.try_slot.result in
      subst (λ (x : Transmitted). HoldsAt P x.slots c.args.place) (sym p.is)
      (subst (λ (l : List Bool). AreTryForms t preambles l p.forms → HoldsAt P (try_slots t preambles l p.forms) c.args.place)
      c.deref.ensures.value (c.try_slot.ensures.slot frame p.forms) p.forms_are);
}
