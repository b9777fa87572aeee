use Rattle.std.proofs.Common.{rules}
use Rattle.dmr_arq.proofs.sender.Sender.offer.Goals as goal

pub returns-else-take-clause-result : goal.returns-else-take-clause-result
returns-else-take-clause-result c = search rules
