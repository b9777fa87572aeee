use Rattle.std.proofs.Common.{◌≡◌, ℕ, ◌-◌, ◌+◌, Bool, List, length, Some, sym, subst, ◌∙◌, ap, arith}
use Rattle.dmr_csbk.specs.declared.block.Csbk.{Csbk}
use Rattle.dmr_hearing.specs.Slots.{SentSlot}
use Rattle.dmr_making.proofs.TrySlots.{preamble_at, header_at, behind_header}
use Rattle.dmr_making.specs.Information.{IsCsbkInformation}
use Rattle.dmr_making.specs.Made.{IsMade}
use Rattle.dmr_making.specs.Standing.{HoldsAt}
use Rattle.dmr_making.specs.Tries.{block_slots, preamble_of}
use Rattle.dmr_making.proofs.tries.try_slot.Goals as goal

pub returns-then-place-before : goal.returns-then-place-before
returns-then-place-before c = record {
  slot = λ frame forms p.
      preamble_at (λ (slot : SentSlot). IsMade c.args.colour frame slot (Some c.csbk_burst.result)) c.args.t.now c.args.preambles
      c.args.blocks.now
      forms c.args.place p (omega (arith, c.from-before.ensures, c.if-place-before.true)) (λ information q.
      let t = c.args.t.now in
      let items : List Bool = c.args.blocks.now in
      let left : c.count_behind-left.result ≡ c.args.preambles - c.args.place + length items =
      c.count_behind-left.ensures.value
      ∙ ap (λ (k : ℕ). k - c.args.place + length items) c.from-before.ensures in
      c.csbk_burst.ensures.burst information
      (subst (λ (csbk : Csbk). IsCsbkInformation csbk information)
      (ap (λ (k : ℕ). preamble_of t k) (sym left) ∙ sym c.preamble.ensures.value) q));
}

pub returns-then-place-before-2 : goal.returns-then-place-before-2
returns-then-place-before-2 c = record {
  slot = λ frame forms p.
      header_at (λ (slot : SentSlot). IsMade c.args.colour frame slot (Some c.header_burst.result)) c.args.t.now c.args.preambles
      c.args.blocks.now
      forms c.args.place p (omega (arith, c.from-before.ensures, c.if-place-before-2.true)) (c.header_burst.ensures.burst
      forms.header p.header);
}

pub returns : goal.returns
returns c = record {
  slot = λ frame forms p.
      behind_header (λ (slot : SentSlot). IsMade c.args.colour frame slot c.block_slot.result) c.args.t.now c.args.preambles
      c.args.blocks.now
      forms c.args.place p (λ lt. omega (arith, c.from-before.ensures, c.if-place-before.false))
      (λ e. c.if-place-before-2.false (e ∙ sym c.from-before.ensures))
      (subst (λ (k : ℕ). HoldsAt (λ (slot : SentSlot). IsMade c.args.colour frame slot c.block_slot.result)
      (block_slots c.args.t.now.rate c.args.blocks.now forms.blocks) (c.args.place - k - 1)) c.from-before.ensures
      (c.block_slot.ensures.slot frame forms p));
}
