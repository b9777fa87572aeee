use Rattle.std.proofs.Common.{◌≡◌, true, false, Some, None, get_or, slice_get, refl, sym, ◌∙◌}
use Rattle.dmr_data.specs.Block.{FitsBlock}
use Rattle.dmr_data.specs.declared.block.Block.{Block}
use Rattle.dmr_hearing.specs.Slots.{SentSlot}
use Rattle.dmr_making.proofs.TrySlots.{block_at, sent_block, no_block, copied, copied_none, fit_at}
use Rattle.dmr_making.specs.Made.{IsMade}
use Rattle.dmr_making.proofs.tries.block_slot.Goals as goal

pub returns-then-not-is_there : goal.returns-then-not-is_there
returns-then-not-is_there c = record {
  slot = λ frame forms p.
      let absent : get_or c.args.blocks.now c.args.place false ≡ false =
      sym c.is_there.ensures.value ∙ c.if-not-is_there.true in
      block_at (λ (slot : SentSlot). IsMade c.args.colour frame slot None) c.args.t.now.rate c.args.blocks.now
      forms.blocks c.args.place (λ q. absurd (cc (absent, q))) (λ q. refl);
}

pub returns-in_err-block : goal.returns-in_err-block
returns-in_err-block c = record {
  slot = λ frame forms p.
      let there : get_or c.args.blocks.now c.args.place false ≡ true =
      sym c.is_there.ensures.value ∙ c.if-not-is_there.false in
      no_block (λ (slot : SentSlot). IsMade c.args.colour frame slot c.from_residual.result) c.args.t.now c.args.preambles
      c.args.blocks.now forms
      c.args.place p (copied_none c.get.result (slice_get c.args.t.now.blocks c.args.place) c.get.ensures.value c.in_err-block.was)
      there;
}

pub block_burst-requires-clause-fit : goal.block_burst-requires-clause-fit
block_burst-requires-clause-fit c =
    fit_at (λ (block : Block). FitsBlock c.args.t.now.rate block.serial block.octets) c.args.t.now.blocks c.args.place
    c.in_ok-block.block.now c.requires.fit.blocks
    (copied c.get.result (slice_get c.args.t.now.blocks c.args.place) c.in_ok-block.block c.get.ensures.value c.in_ok-block.was)

pub returns : goal.returns
returns c = record {
  slot = λ frame forms p.
      let there : get_or c.args.blocks.now c.args.place false ≡ true =
      sym c.is_there.ensures.value ∙ c.if-not-is_there.false in
      sent_block (λ (slot : SentSlot). IsMade c.args.colour frame slot (Some c.block_burst.result)) c.args.t.now c.args.preambles
      c.args.blocks.now
      forms c.args.place c.in_ok-block.block.now p
      (copied c.get.result (slice_get c.args.t.now.blocks c.args.place) c.in_ok-block.block c.get.ensures.value c.in_ok-block.was)
      there c.block_burst.ensures.burst;
}
