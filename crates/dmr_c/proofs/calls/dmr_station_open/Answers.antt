use Rattle.std.proofs.Common.{rules}
use Rattle.dmr_c.proofs.calls.dmr_station_open.Goals as goal

pub returns-in_default-new-clause-fit : goal.returns-in_default-new-clause-fit
returns-in_default-new-clause-fit c = search rules
