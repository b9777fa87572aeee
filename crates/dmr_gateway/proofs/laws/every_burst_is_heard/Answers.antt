use Rattle.dmr_gateway.proofs.Existing.{burst_is_heard}
use Rattle.dmr_gateway.proofs.laws.every_burst_is_heard.Goals as goal

pub returns : goal.returns
returns c = record { law = burst_is_heard }
