use Rattle.std.proofs.Common.{rules}
use Rattle.dmr_gateway.proofs.side.Side.take_received.Goals as goal

pub returns-in-Some-clause-received : goal.returns-in-Some-clause-received
returns-in-Some-clause-received c = search rules

pub returns-in-Some-clause-state : goal.returns-in-Some-clause-state
returns-in-Some-clause-state c = search rules
