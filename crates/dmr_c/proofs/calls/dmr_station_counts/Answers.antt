use Rattle.std.proofs.Common.{rules}
use Rattle.dmr_c.proofs.calls.dmr_station_counts.Goals as goal

pub returns-in-Some-clause-told : goal.returns-in-Some-clause-told
returns-in-Some-clause-told c = search rules
