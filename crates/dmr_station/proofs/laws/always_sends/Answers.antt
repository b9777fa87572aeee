use Rattle.dmr_station.proofs.Existing.{always_sends}
use Rattle.dmr_station.proofs.laws.always_sends.Goals as goal

pub returns : goal.returns
returns c = record { law = always_sends }
