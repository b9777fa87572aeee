use Rattle.dmr_station.proofs.Readings.{one_reading}
use Rattle.dmr_station.proofs.laws.one_burst_in_a_slot.Goals as goal

pub returns : goal.returns
returns c = record { law = one_reading }
