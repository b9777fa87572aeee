use Rattle.std.proofs.Common.{◌≡◌, List, Bool, true, take, replicate, ap, sym, subst, ◌∙◌}
use Rattle.dmr_hearing.specs.Slots.{SentSlot}
use Rattle.dmr_making.proofs.Standing.{take_same}
use Rattle.dmr_making.specs.Made.{IsMade}
use Rattle.dmr_making.specs.Sends.{Transmitted}
use Rattle.dmr_making.specs.Standing.{HoldsAt}
use Rattle.dmr_making.specs.Tries.{IsFitTry, AreTryForms, try_slots}
use Rattle.dmr_making.proofs.sending.unshaped_slot.Goals as goal

pub try_slot-requires-clause-fit : goal.try_slot-requires-clause-fit
try_slot-requires-clause-fit c =
    let cut : take c.args.count c.args.all.now ≡ replicate c.args.count true =
    ap (λ (l : List Bool). take c.args.count l) c.requires.all ∙ take_same c.args.count 127 true c.requires.count in
    subst (λ (l : List Bool). IsFitTry c.args.t.now 0 l) (sym cut) c.requires.fit

pub returns : goal.returns
returns c = record {
  slot = λ frame sent p.
      let t = c.args.t.now in
      let P : SentSlot → Type 0 = λ slot. IsMade c.args.colour frame slot c.try_slot.result in
      let cut : take c.args.count c.args.all.now ≡ replicate c.args.count true =
      ap (λ (l : List Bool). take c.args.count l) c.requires.all ∙ take_same c.args.count 127 true c.requires.count in
      subst (λ (x : Transmitted). HoldsAt P x.slots c.args.place) (sym p.is)
      (subst (λ (l : List Bool). AreTryForms t 0 l p.forms → HoldsAt P (try_slots t 0 l p.forms) c.args.place) cut
      (c.try_slot.ensures.slot frame p.forms) p.forms_are);
}
