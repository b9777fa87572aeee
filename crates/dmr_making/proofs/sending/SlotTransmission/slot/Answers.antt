use Rattle.std.proofs.Common.{ℕ, sym, subst}
use Rattle.std.specs.Option.{option_copied}
use Rattle.dmr_hearing.specs.Slots.{SentSlot}
use Rattle.dmr_making.specs.Made.{IsMade}
use Rattle.dmr_making.specs.Sends.{SendsSaid}
use Rattle.dmr_making.specs.Standing.{HoldsAt}
use Rattle.dmr_making.proofs.sending.SlotTransmission.slot.Goals as goal

pub returns : goal.returns
returns c = record {
  slot = λ sent p.
      subst (λ (colour : ℕ). HoldsAt (λ (slot : SentSlot). IsMade colour c.args.frame slot c.said_slot.result) sent.slots
      c.args.place)
      c.colour_of-colour.ensures.value
      (c.said_slot.ensures.slot sent
      (subst (λ (colour : ℕ). SendsSaid colour (option_copied c.args.self.last) c.args.self.transmit.now.transmission sent)
      (sym c.colour_of-colour.ensures.value) p));
}
