use Rattle.dmr_hearing.specs.Slots.{SentSlot}
use Rattle.dmr_making.proofs.CallSlots.{late_front, late_voice}
use Rattle.dmr_making.specs.Made.{IsMade}
use Rattle.dmr_making.proofs.calls.late_slot.Goals as goal

pub returns-then-place-tail : goal.returns-then-place-tail
returns-then-place-tail c = record {
  slot = λ forms p.
      late_front (λ (slot : SentSlot). IsMade c.args.colour c.args.frame slot c.tail_slot.result) c.args.colour c.args.call.now
      forms
      c.args.tail.now c.args.place c.requires.five c.if-place-tail.true (c.tail_slot.ensures.slot forms p);
}

pub returns-else-place-tail : goal.returns-else-place-tail
returns-else-place-tail c = record {
  slot = λ forms p.
      late_voice (λ (slot : SentSlot). IsMade c.args.colour c.args.frame slot c.voice_slot.result) c.args.colour c.args.call.now
      forms
      c.args.tail.now c.args.place c.requires.five c.if-place-tail.false (c.voice_slot.ensures.slot forms p);
}
