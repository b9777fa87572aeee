use Rattle.std.proofs.Common.{rules}
use Rattle.dmr_c.proofs.calls.dmr_station_close.Goals as goal

pub returns : goal.returns
returns c = search rules
