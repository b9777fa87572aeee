use Rattle.std.proofs.Common.{rules}
use Rattle.dmr_record.proofs.uplink.burst_record.Goals as goal

pub returns : goal.returns
returns c = search rules
