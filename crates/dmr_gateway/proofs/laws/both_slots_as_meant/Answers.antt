use Rattle.dmr_gateway.proofs.BothSlots.{starts, frames_as_meant}
use Rattle.dmr_gateway.proofs.laws.both_slots_as_meant.Goals as goal

pub returns : goal.returns
returns c = record { start = starts; frame = frames_as_meant }
