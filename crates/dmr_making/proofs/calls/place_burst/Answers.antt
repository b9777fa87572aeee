use Rattle.std.proofs.Common.{Some, sym, subst}
use Rattle.dmr_hearing.specs.Slots.{SentSlot}
use Rattle.dmr_making.proofs.CallSlots.{full_B, full_C, full_D, full_E, full_F}
use Rattle.dmr_making.specs.Made.{IsMade}
use Rattle.dmr_making.specs.Places.{full_slots, place_number}
use Rattle.dmr_making.specs.Standing.{HoldsAt}
use Rattle.dmr_script.specs.declared.shape.Place.{Place}
use Rattle.dmr_making.proofs.calls.place_burst.Goals as goal

pub returns-in-B : goal.returns-in-B
returns-in-B c = record {
  burst = λ fields p.
      subst (λ (l : Place). HoldsAt (λ (slot : SentSlot). IsMade c.args.voice.colour c.args.voice.frame slot (Some
      c.fragment_burst.result))
      (full_slots c.args.voice.colour c.args.voice.pi c.args.carried fields) (place_number l)) (sym c.in-B.is)
      (full_B c.args.voice.colour c.args.voice.frame c.args.voice.pi c.args.carried fields c.fragment_burst.result
      (c.fragment_burst.ensures.burst fields p));
}

pub returns-in-C : goal.returns-in-C
returns-in-C c = record {
  burst = λ fields p.
      subst (λ (l : Place). HoldsAt (λ (slot : SentSlot). IsMade c.args.voice.colour c.args.voice.frame slot (Some
      c.fragment_burst-in-C.result))
      (full_slots c.args.voice.colour c.args.voice.pi c.args.carried fields) (place_number l)) (sym c.in-C.is)
      (full_C c.args.voice.colour c.args.voice.frame c.args.voice.pi c.args.carried fields c.fragment_burst-in-C.result
      (c.fragment_burst-in-C.ensures.burst fields p));
}

pub returns-in-D : goal.returns-in-D
returns-in-D c = record {
  burst = λ fields p.
      subst (λ (l : Place). HoldsAt (λ (slot : SentSlot). IsMade c.args.voice.colour c.args.voice.frame slot (Some
      c.fragment_burst-in-D.result))
      (full_slots c.args.voice.colour c.args.voice.pi c.args.carried fields) (place_number l)) (sym c.in-D.is)
      (full_D c.args.voice.colour c.args.voice.frame c.args.voice.pi c.args.carried fields c.fragment_burst-in-D.result
      (c.fragment_burst-in-D.ensures.burst fields p));
}

pub returns-in-E : goal.returns-in-E
returns-in-E c = record {
  burst = λ fields p.
      subst (λ (l : Place). HoldsAt (λ (slot : SentSlot). IsMade c.args.voice.colour c.args.voice.frame slot (Some
      c.fragment_burst-in-E.result))
      (full_slots c.args.voice.colour c.args.voice.pi c.args.carried fields) (place_number l)) (sym c.in-E.is)
      (full_E c.args.voice.colour c.args.voice.frame c.args.voice.pi c.args.carried fields c.fragment_burst-in-E.result
      (c.fragment_burst-in-E.ensures.burst fields p));
}

pub returns-in-F : goal.returns-in-F
returns-in-F c = record {
  burst = λ fields p.
      subst (λ (l : Place). HoldsAt (λ (slot : SentSlot). IsMade c.args.voice.colour c.args.voice.frame slot (Some
      c.last_burst.result))
      (full_slots c.args.voice.colour c.args.voice.pi c.args.carried fields) (place_number l)) (sym c.in-F.is)
      (full_F c.args.voice.colour c.args.voice.frame c.args.voice.pi c.args.carried fields c.last_burst.result
      c.last_burst.ensures.burst);
}
