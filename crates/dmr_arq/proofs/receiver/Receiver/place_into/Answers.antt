use Rattle.std.proofs.Common.{rules, sym, subst}
use Rattle.dmr_arq.specs.Fit.{IsFitReceiver, IsFitReceiverOut}
use Rattle.dmr_arq.proofs.Arriving.{placed_fit}
use Rattle.dmr_arq.proofs.receiver.Receiver.place_into.Goals as goal

pub returns-in-Partial-clause-out : goal.returns-in-Partial-clause-out
returns-in-Partial-clause-out c = search rules

pub returns-in-Partial-clause-fit : goal.returns-in-Partial-clause-fit
returns-in-Partial-clause-fit c =
    subst IsFitReceiverOut (sym (returns-in-Partial-clause-out c))
    (placed_fit _ c.args.self.now (subst IsFitReceiver c.self.view_is c.self.invariant)).out

pub returns-in-Single-clause-out : goal.returns-in-Single-clause-out
returns-in-Single-clause-out c = search rules

pub returns-in-Single-clause-fit : goal.returns-in-Single-clause-fit
returns-in-Single-clause-fit c =
    subst IsFitReceiverOut (sym (returns-in-Single-clause-out c))
    (placed_fit _ c.args.self.now (subst IsFitReceiver c.self.view_is c.self.invariant)).out

pub returns-in-Confirmed-clause-out : goal.returns-in-Confirmed-clause-out
returns-in-Confirmed-clause-out c = search rules

pub returns-in-Confirmed-clause-fit : goal.returns-in-Confirmed-clause-fit
returns-in-Confirmed-clause-fit c =
    subst IsFitReceiverOut (sym (returns-in-Confirmed-clause-out c))
    (placed_fit _ c.args.self.now (subst IsFitReceiver c.self.view_is c.self.invariant)).out

pub returns-in-Partial-clause-state : goal.returns-in-Partial-clause-state
returns-in-Partial-clause-state c = search rules

pub returns-in-Single-clause-state : goal.returns-in-Single-clause-state
returns-in-Single-clause-state c = search rules

pub returns-in-Confirmed-clause-state : goal.returns-in-Confirmed-clause-state
returns-in-Confirmed-clause-state c = search rules
