use Rattle.std.proofs.Common.{subst}
use Rattle.dmr_making.proofs.OtherTries.{one_answer, answer_fits}
use Rattle.dmr_making.specs.Sends.{SendsTry}
use Rattle.dmr_making.specs.declared.tries.SentTry.{SentTry}
use Rattle.dmr_making.proofs.sending.answer_slot.Goals as goal

pub shaped_slot-requires-clause-fit : goal.shaped_slot-requires-clause-fit
shaped_slot-requires-clause-fit c = answer_fits c.args.answer.now c.answer_try.result c.requires.fit c.answer_try.ensures.is

pub returns : goal.returns
returns c = record {
  slot = λ frame sent p.
      c.shaped_slot.ensures.slot frame sent
      (subst (λ (t : SentTry). SendsTry t c.args.answer.now.shape.preambles c.args.answer.now.shape.blocks.items sent)
      (one_answer c.args.answer.now c.args.answer.now.kind p.0 c.answer_try.result p.1 c.answer_try.ensures.is) p.2);
}
