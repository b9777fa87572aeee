use Rattle.dmr_station.proofs.OneResult.{one_downlink_by_the_rules}
use Rattle.dmr_station.proofs.laws.one_downlink_by_the_rules.Goals as goal

pub returns : goal.returns
returns c = record { law = one_downlink_by_the_rules }
