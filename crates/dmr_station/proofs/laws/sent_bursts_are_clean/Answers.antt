use Rattle.dmr_station.proofs.Cleaning.{sent_bursts_are_clean}
use Rattle.dmr_station.proofs.laws.sent_bursts_are_clean.Goals as goal

pub returns : goal.returns
returns c = record { law = sent_bursts_are_clean }
