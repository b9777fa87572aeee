use Rattle.dmr_web.proofs.LookingBack.{six_back}
use Rattle.dmr_web.proofs.laws.lines_look_six_frames_back.Goals as goal

pub returns : goal.returns
returns c = record { law = six_back }
