use Rattle.std.proofs.Common.{rules}
use Rattle.dmr_gateway.proofs.gateway.Gateway.has_nothing_received.Goals as goal

pub returns-then-has_nothing : goal.returns-then-has_nothing
returns-then-has_nothing c = search rules
