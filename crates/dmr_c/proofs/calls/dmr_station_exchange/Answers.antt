use Rattle.std.proofs.Common.{rules}
use Rattle.dmr_c.proofs.calls.dmr_station_exchange.Goals as goal

pub returns-in-Some-clause-status : goal.returns-in-Some-clause-status
returns-in-Some-clause-status c = search rules
