use Rattle.std.proofs.Common.{rules}
use Rattle.dmr_gateway.proofs.gateway.Gateway.new.Goals as goal

pub returns-clause-start : goal.returns-clause-start
returns-clause-start c = search rules
