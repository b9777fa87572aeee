use Rattle.dmr_station.proofs.FramesBySlot.{one_downlink}
use Rattle.dmr_station.proofs.laws.one_downlink.Goals as goal

pub returns : goal.returns
returns c = record { law = one_downlink }
