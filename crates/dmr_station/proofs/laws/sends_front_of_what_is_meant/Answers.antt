use Rattle.dmr_station.proofs.FramesBySlot.{sends_front_of_what_is_meant}
use Rattle.dmr_station.proofs.laws.sends_front_of_what_is_meant.Goals as goal

pub returns : goal.returns
returns c = record { law = sends_front_of_what_is_meant }
