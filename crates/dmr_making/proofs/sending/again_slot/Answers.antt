use Rattle.std.proofs.Common.{subst}
use Rattle.dmr_making.specs.Sends.{SendsAgain}
use Rattle.dmr_making.specs.Senders.{IsFitAgain}
use Rattle.dmr_script.specs.declared.packet.Again.{Again}
use Rattle.dmr_making.proofs.sending.again_slot.Goals as goal

pub full_slot-requires-clause-fit : goal.full_slot-requires-clause-fit
full_slot-requires-clause-fit c = subst (λ (a : Again). IsFitAgain c.args.packet.now a) c.in-Full.is c.requires.fit

pub partial_slot-requires-clause-fit : goal.partial_slot-requires-clause-fit
partial_slot-requires-clause-fit c = subst (λ (a : Again). IsFitAgain c.args.packet.now a) c.in-Partial.is c.requires.fit

pub returns-in-Full : goal.returns-in-Full
returns-in-Full c = record {
  slot = λ frame sent p.
      c.full_slot.ensures.slot frame sent (subst (λ (a : Again). SendsAgain c.args.packet.now a sent) c.in-Full.is p);
}

pub returns-in-Partial : goal.returns-in-Partial
returns-in-Partial c = record {
  slot = λ frame sent p.
      c.partial_slot.ensures.slot frame sent (subst (λ (a : Again). SendsAgain c.args.packet.now a sent) c.in-Partial.is p);
}
