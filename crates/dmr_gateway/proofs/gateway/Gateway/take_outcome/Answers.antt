use Rattle.std.proofs.Common.{rules}
use Rattle.dmr_gateway.proofs.gateway.Gateway.take_outcome.Goals as goal

pub returns-in-Some-clause-outcome : goal.returns-in-Some-clause-outcome
returns-in-Some-clause-outcome c = search rules
