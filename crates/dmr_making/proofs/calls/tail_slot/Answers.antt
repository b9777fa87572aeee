use Rattle.std.proofs.Common.{ℕ, ◌-◌, ◌+◌, Bool, true, false, List, length, Some, None, refl, subst}
use Rattle.std.proofs.lemmas.List.{get_or_default}
use Rattle.dmr_hearing.specs.Slots.{SentSlot}
use Rattle.dmr_making.proofs.CallSlots.{tail_at}
use Rattle.dmr_making.specs.Made.{IsMade}
use Rattle.dmr_making.specs.Places.{full_slots}
use Rattle.dmr_making.specs.Standing.{HoldsAt}
use Rattle.dmr_making.proofs.calls.tail_slot.Goals as goal

pub returns-then-not-tail-place : goal.returns-then-not-tail-place
returns-then-not-tail-place c = record {
  slot = λ forms p.
      let tail : List Bool = c.args.tail.now in
      tail_at (λ (slot : SentSlot). IsMade c.args.colour c.args.frame slot None) c.args.colour c.args.call.now forms tail
      c.args.place (6 - length tail + c.args.place) refl c.requires.inside (λ q. absurd (let e = get_or_default tail c.args.place
      true false c.requires.inside in cc (e, q, c.if-not-tail-place.true))) (λ q. refl);
}

pub returns : goal.returns
returns c = record {
  slot = λ forms p.
      let tail : List Bool = c.args.tail.now in
      let P : SentSlot → Type 0 = λ slot. IsMade c.args.colour c.args.frame slot (Some c.place_burst.result) in
      tail_at P c.args.colour c.args.call.now forms tail c.args.place (6 - length tail + c.args.place) refl c.requires.inside
      (λ q. subst (λ (k : ℕ). HoldsAt P (full_slots c.args.colour c.args.call.now.pi (Some c.args.call.now.link_control)
      forms.own_fields) k) c.place_of-letter.ensures.number (c.place_burst.ensures.burst forms.own_fields p.own_fields))
      (λ q. absurd (let e = get_or_default tail c.args.place true false c.requires.inside in cc (e, q, c.if-not-tail-place.false)));
}
