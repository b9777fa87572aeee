use Rattle.dmr_dmrd.proofs.SentFrames.{placed_as_sent}
use Rattle.dmr_dmrd.proofs.laws.packets_are_placed_in_their_frames.Goals as goal

pub returns : goal.returns
returns c = record { placed = placed_as_sent }
