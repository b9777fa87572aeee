use Rattle.std.proofs.Common.{rules}
use Rattle.dmr_arq.proofs.sender.Sender.outcome.Goals as goal

pub returns-clause-state : goal.returns-clause-state
returns-clause-state c = search rules
