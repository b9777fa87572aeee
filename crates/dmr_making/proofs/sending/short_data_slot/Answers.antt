use Rattle.std.proofs.Common.{subst}
use Rattle.dmr_making.proofs.OtherTries.{one_short_data, short_data_fits}
use Rattle.dmr_making.specs.Sends.{SendsTry}
use Rattle.dmr_making.specs.declared.tries.SentTry.{SentTry}
use Rattle.dmr_making.proofs.sending.short_data_slot.Goals as goal

pub shaped_slot-requires-clause-fit : goal.shaped_slot-requires-clause-fit
shaped_slot-requires-clause-fit c = short_data_fits c.args.short.now c.short_data_try.result c.requires.fit
    c.short_data_try.ensures.is

pub returns : goal.returns
returns c = record {
  slot = λ frame sent p.
      c.shaped_slot.ensures.slot frame sent
      (subst (λ (t : SentTry). SendsTry t c.args.short.now.shape.preambles c.args.short.now.shape.blocks.items sent)
      (one_short_data c.args.short.now p.0 c.short_data_try.result p.1 c.short_data_try.ensures.is) p.2);
}
