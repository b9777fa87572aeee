use Rattle.std.proofs.Common.{sym, subst}
use Rattle.dmr_making.proofs.OtherTries.{status_fits}
use Rattle.dmr_making.specs.Sends.{SendsTry}
use Rattle.dmr_making.specs.Tries.{IsFitTry}
use Rattle.dmr_making.specs.declared.tries.SentTry.{SentTry}
use Rattle.dmr_making.proofs.sending.status_slot.Goals as goal

pub shaped_slot-requires-clause-fit : goal.shaped_slot-requires-clause-fit
shaped_slot-requires-clause-fit c =
    subst (λ (t : SentTry). IsFitTry t c.args.status.now.shape.preambles c.args.status.now.shape.blocks.items)
    (sym c.status_try.ensures.is) (status_fits c.args.status.now c.requires.fit)

pub returns : goal.returns
returns c = record {
  slot = λ frame sent p.
      c.shaped_slot.ensures.slot frame sent
      (subst (λ (t : SentTry). SendsTry t c.args.status.now.shape.preambles c.args.status.now.shape.blocks.items sent)
      (sym c.status_try.ensures.is) p);
}
