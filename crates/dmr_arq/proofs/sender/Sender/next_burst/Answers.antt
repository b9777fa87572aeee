use Rattle.std.proofs.Common.{rules}
use Rattle.dmr_arq.proofs.Leaving.{burst_fits}
use Rattle.dmr_arq.proofs.sender.Sender.next_burst.Goals as goal

pub returns-clause-fit : goal.returns-clause-fit
returns-clause-fit c = rw c.burst-burst.ensures.burst (burst_fits c.self.inside.state c.self.invariant)

pub returns-clause-state : goal.returns-clause-state
returns-clause-state c = search rules
