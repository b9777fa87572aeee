use Rattle.std.proofs.Common.{rules}
use Rattle.dmr_gateway.proofs.received.status_gives.Goals as goal

pub returns-then-header-llid-clause-value : goal.returns-then-header-llid-clause-value
returns-then-header-llid-clause-value c = search rules
