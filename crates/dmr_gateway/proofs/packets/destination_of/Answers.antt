use Rattle.std.proofs.Common.{rules}
use Rattle.dmr_gateway.proofs.packets.destination_of.Goals as goal

pub returns-clause-value : goal.returns-clause-value
returns-clause-value c = search rules
