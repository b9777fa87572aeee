use Rattle.std.proofs.Common.{rules}
use Rattle.dmr_gateway.proofs.gateway.Gateway.heard.Goals as goal

pub returns-then-slot-eq1 : goal.returns-then-slot-eq1
returns-then-slot-eq1 c = search rules
