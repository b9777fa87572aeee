use Rattle.std.proofs.Common.{rules}
use Rattle.dmr_gateway.proofs.gateway.Gateway.offer.Goals as goal

pub returns-then-outgoing-eq1-clause-offer : goal.returns-then-outgoing-eq1-clause-offer
returns-then-outgoing-eq1-clause-offer c = search rules
