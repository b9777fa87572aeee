use Rattle.std.proofs.Common.{rules}
use Rattle.dmr_c.proofs.calls.dmr_station_offer.Goals as goal

pub returns-in-Some-clause-done : goal.returns-in-Some-clause-done
returns-in-Some-clause-done c = search rules
