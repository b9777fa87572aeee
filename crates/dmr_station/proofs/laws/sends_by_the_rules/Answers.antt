use Rattle.dmr_station.proofs.Exchanges.{sends_by_the_rules}
use Rattle.dmr_station.proofs.laws.sends_by_the_rules.Goals as goal

pub returns : goal.returns
returns c = record { law = sends_by_the_rules }
