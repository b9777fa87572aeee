use Rattle.std.proofs.Common.{◌≡◌, ℕ, ◌-◌, ◌<◌, ◌≤◌, List, length, Option, Some, None, slice_get, refl, ap, sym, subst, ◌∙◌}
use Rattle.std.proofs.Common.{arith}
use Rattle.dmr_hearing.specs.Slots.{SentSlot}
use Rattle.dmr_making.proofs.CallSlots.{headed_first, headed_more, headed_gap, headed_voice, none_past}
use Rattle.dmr_making.specs.Calls.{silences_behind, voice_slots}
use Rattle.dmr_making.specs.Made.{IsMade}
use Rattle.dmr_making.specs.Standing.{HoldsAt}
use Rattle.dmr_script.specs.declared.shape.HeaderKind.{HeaderKind}
use Rattle.dmr_making.proofs.calls.headed_slot.Goals as goal

-- what was read of the headers
read : (items slice : List HeaderKind) (place : ℕ) (found : Option HeaderKind) → found ≡ slice_get slice place → slice ≡ items
    → slice_get items place ≡ found
read items slice place found p q = sym (p ∙ ap (λ (l : List HeaderKind). slice_get l place) q)

pub returns-then-place-eq0 : goal.returns-then-place-eq0
returns-then-place-eq0 c = record {
  slot = λ forms p.
      headed_first (λ (slot : SentSlot). IsMade c.args.colour c.args.frame slot (Some c.call_header.result)) c.args.colour
      c.args.call.now forms c.args.headers.now c.args.place c.if-place-eq0.true (c.call_header.ensures.slot c.args.frame forms p);
}

pub returns-in-Some : goal.returns-in-Some
returns-in-Some c = record {
  slot = λ forms p.
      let items : List HeaderKind = c.args.headers.now.more.items in
      headed_more (λ (slot : SentSlot). IsMade c.args.colour c.args.frame slot (Some c.call_header-in-Some.result)) c.args.colour
      c.args.call.now forms c.args.headers.now c.args.place c.in-Some.kind c.if-place-eq0.false
      (read items c.deref.result.now (c.args.place - 1) c.header_at.result c.header_at.ensures.value c.deref.ensures.value
      ∙ c.in-Some.is)
      (c.call_header-in-Some.ensures.slot c.args.frame forms p);
}

pub returns-then-behind-silences : goal.returns-then-behind-silences
returns-then-behind-silences c = record {
  slot = λ forms p.
      let h = c.args.headers.now in
      let items : List HeaderKind = h.more.items in
      let count : ℕ = silences_behind c.args.call.now.shape.places.items h in
      let past : length items ≤ c.args.place - 1 =
      none_past items (c.args.place - 1)
      (read items c.deref.result.now (c.args.place - 1) c.header_at.result c.header_at.ensures.value c.deref.ensures.value
      ∙ c.in_default.is) in
      let long : c.len.result ≡ length items =
      c.len.ensures ∙ sym c.deref.ensures.len ∙ ap (λ (l : List HeaderKind). length l) c.deref.ensures.value in
      let few : c.silences_behind-silences.result ≡ count = c.silences_behind-silences.ensures.value in
      let less : c.args.place - 1 - c.len.result < c.silences_behind-silences.result = c.if-behind-silences.true in
      headed_gap (λ (slot : SentSlot). IsMade c.args.colour c.args.frame slot None) c.args.colour c.args.call.now forms h
      c.args.place c.if-place-eq0.false past (omega (arith, long, few, less)) refl;
}

pub returns : goal.returns
returns c = record {
  slot = λ forms p.
      let h = c.args.headers.now in
      let items : List HeaderKind = h.more.items in
      let count : ℕ = silences_behind c.args.call.now.shape.places.items h in
      let past : length items ≤ c.args.place - 1 =
      none_past items (c.args.place - 1)
      (read items c.deref.result.now (c.args.place - 1) c.header_at.result c.header_at.ensures.value c.deref.ensures.value
      ∙ c.in_default.is) in
      let long : c.len.result ≡ length items =
      c.len.ensures ∙ sym c.deref.ensures.len ∙ ap (λ (l : List HeaderKind). length l) c.deref.ensures.value in
      let few : c.silences_behind-silences.result ≡ count = c.silences_behind-silences.ensures.value in
      let more : c.silences_behind-silences.result ≤ c.args.place - 1 - c.len.result = c.if-behind-silences.false in
      let P : SentSlot → Type 0 = λ slot. IsMade c.args.colour c.args.frame slot c.voice_slot.result in
      let at : c.args.place - 1 - c.len.result - c.silences_behind-silences.result ≡ c.args.place - 1 - length items - count =
      omega (arith, long, few) in
      headed_voice P c.args.colour c.args.call.now forms h c.args.place c.if-place-eq0.false past
      (omega (arith, long, few, more))
      (subst (λ (k : ℕ). HoldsAt P (voice_slots c.args.colour c.args.call.now forms) k) at (c.voice_slot.ensures.slot forms p));
}
