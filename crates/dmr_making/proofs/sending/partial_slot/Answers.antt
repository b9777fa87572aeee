use Rattle.std.proofs.Common.{subst}
use Rattle.dmr_making.proofs.TryFits.{one_partial_try, partial_try_fits}
use Rattle.dmr_making.specs.Sends.{SendsTry}
use Rattle.dmr_making.specs.declared.tries.SentTry.{SentTry}
use Rattle.dmr_making.proofs.sending.partial_slot.Goals as goal

pub shaped_slot-requires-clause-fit : goal.shaped_slot-requires-clause-fit
shaped_slot-requires-clause-fit c =
    partial_try_fits c.args.packet.now c.args.partial.now c.partial_try.result c.requires.packet c.requires.fit.0
    c.partial_try.ensures.is

pub returns : goal.returns
returns c = record {
  slot = λ frame sent p.
      c.shaped_slot.ensures.slot frame sent
      (subst (λ (t : SentTry). SendsTry t c.args.partial.now.shape.preambles c.args.partial.now.shape.blocks.items sent)
      (one_partial_try c.args.packet.now c.args.partial.now p.0 c.partial_try.result p.1 c.partial_try.ensures.is) p.2);
}
