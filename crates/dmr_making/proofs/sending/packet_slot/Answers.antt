use Rattle.std.proofs.Common.{subst, refl}
use Rattle.dmr_making.proofs.TryFits.{one_full_try, full_try_fits}
use Rattle.dmr_making.specs.Sends.{SendsTry}
use Rattle.dmr_making.specs.declared.tries.SentTry.{SentTry}
use Rattle.dmr_making.proofs.sending.packet_slot.Goals as goal

pub shaped_slot-requires-clause-fit : goal.shaped_slot-requires-clause-fit
shaped_slot-requires-clause-fit c = full_try_fits c.args.packet.now c.full_try.result c.args.packet.now.shape.preambles
    c.args.packet.now.shape.blocks.items
    c.requires.fit c.full_try.ensures.is refl c.requires.fit.shape.counted

pub returns : goal.returns
returns c = record {
  slot = λ frame sent p.
      c.shaped_slot.ensures.slot frame sent
      (subst (λ (t : SentTry). SendsTry t c.args.packet.now.shape.preambles c.args.packet.now.shape.blocks.items sent)
      (one_full_try c.args.packet.now p.0 c.full_try.result p.1 c.full_try.ensures.is) p.2);
}
