use Rattle.std.proofs.Common.{rules}
use Rattle.std.proofs.Common.{sym, subst}
use Rattle.dmr_arq.specs.Fit.{IsFitSender}
use Rattle.dmr_arq.proofs.Leaving.{offered_fit}
use Rattle.dmr_arq.proofs.sender.Sender.take.Goals as goal

pub invariant_of-self : goal.invariant_of-self
invariant_of-self c =
    subst IsFitSender (sym c.take.ensures.state)
    (offered_fit c.args.packet.now c.args.route c.self.inside.state c.requires.packet c.requires.route c.self.invariant)

pub returns-clause-taken : goal.returns-clause-taken
returns-clause-taken c = search rules
