use Rattle.std.proofs.Common.{◌≡◌, ℕ, ◌/◌, Bool, true, false, List, Option, Some, None, get_or, slice_get, refl}
use Rattle.std.proofs.Common.{ap, sym, subst, ◌∙◌}
use Rattle.std.proofs.lemmas.Option.{slice_get_within, get_or_from_slice_get}
use Rattle.dmr_hearing.specs.Slots.{SentSlot}
use Rattle.dmr_link.specs.declared.full_lc.FullLc.{FullLc}
use Rattle.dmr_making.proofs.CallSlots.{voice_slot_at, terminator_at, none_past}
use Rattle.dmr_making.specs.Calls.{AreFieldsOf, carried_by}
use Rattle.dmr_making.specs.Made.{IsMade}
use Rattle.dmr_making.specs.Places.{full_slots, place_number}
use Rattle.dmr_making.specs.Standing.{HoldsAt}
use Rattle.dmr_making.proofs.calls.voice_slot.Goals as goal

-- what was read of the places
read : (items slice : List Bool) (place : ℕ) (found : Option Bool) → found ≡ slice_get slice place → slice ≡ items
    → slice_get items place ≡ found
read items slice place found p q = sym (p ∙ ap (λ (l : List Bool). slice_get l place) q)

pub returns-in-None : goal.returns-in-None
returns-in-None c = record {
  slot = λ forms p.
      let items : List Bool = c.args.call.now.shape.places.items in
      terminator_at (λ (slot : SentSlot). IsMade c.args.colour c.args.frame slot (Some c.lc_burst.result)) c.args.colour
      c.args.call.now forms c.args.place
      (none_past items c.args.place
      (read items c.deref.result.now c.args.place c.presence.result c.presence.ensures.value c.deref.ensures.value ∙ c.in-None.is))
      (c.lc_burst.ensures.burst forms.terminator p.terminator);
}

pub returns-in-Some-true : goal.returns-in-Some-true
returns-in-Some-true c = record {
  slot = λ forms p.
      let call = c.args.call.now in
      let items : List Bool = call.shape.places.items in
      let number : ℕ = c.args.place / 6 in
      let fields : List ℕ = forms.fields number in
      let carried : Option FullLc = carried_by call.link_control call.carried.items number in
      let P : SentSlot → Type 0 = λ slot. IsMade c.args.colour c.args.frame slot (Some c.place_burst.result) in
      let there : slice_get items c.args.place ≡ Some true =
      read items c.deref.result.now c.args.place c.presence.result c.presence.ensures.value c.deref.ensures.value
      ∙ c.in-Some-true.is ∙ ap (λ (b : Bool). Some b) c.in-Some-true.field-0-test in
      let is : get_or items c.args.place true ≡ true = get_or_from_slice_get items c.args.place true true there in
      voice_slot_at P c.args.colour call forms c.args.place (slice_get_within items c.args.place true there)
      (λ q. subst (λ (k : ℕ). HoldsAt P (full_slots c.args.colour call.pi carried fields) k) c.place_of.ensures.number
      (subst (λ (x : Option FullLc). HoldsAt P (full_slots c.args.colour call.pi x fields) (place_number c.place_of.result))
      c.carried_by-carried.ensures.value
      (c.place_burst.ensures.burst fields
      (subst (λ (x : Option FullLc). AreFieldsOf x fields) (sym c.carried_by-carried.ensures.value) (p.fields number)))))
      (λ q. absurd (cc (is, q)));
}

pub returns-in-Some-false : goal.returns-in-Some-false
returns-in-Some-false c = record {
  slot = λ forms p.
      let items : List Bool = c.args.call.now.shape.places.items in
      let absent : slice_get items c.args.place ≡ Some false =
      read items c.deref.result.now c.args.place c.presence.result c.presence.ensures.value c.deref.ensures.value
      ∙ c.in-Some-false.is ∙ ap (λ (b : Bool). Some b) c.in-Some-false.field-0-test in
      let is : get_or items c.args.place true ≡ false = get_or_from_slice_get items c.args.place false true absent in
      voice_slot_at (λ (slot : SentSlot). IsMade c.args.colour c.args.frame slot None) c.args.colour c.args.call.now forms
      c.args.place (slice_get_within items c.args.place false absent) (λ q. absurd (cc (is, q))) (λ q. refl);
}
