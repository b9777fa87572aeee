use Rattle.dmr_station.proofs.OneResult.{one_downlink_of_what_is_meant}
use Rattle.dmr_station.proofs.laws.one_downlink_of_what_is_meant.Goals as goal

pub returns : goal.returns
returns c = record { law = one_downlink_of_what_is_meant }
