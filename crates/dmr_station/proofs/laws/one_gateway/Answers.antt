use Rattle.dmr_station.proofs.OneResult.{one_gateway}
use Rattle.dmr_station.proofs.laws.one_gateway.Goals as goal

pub returns : goal.returns
returns c = record { law = one_gateway }
