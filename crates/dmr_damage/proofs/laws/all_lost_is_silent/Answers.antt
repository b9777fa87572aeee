use Rattle.dmr_damage.proofs.AtRate.{frames_lost}
use Rattle.dmr_damage.proofs.laws.all_lost_is_silent.Goals as goal

pub returns : goal.returns
returns c = record { law = frames_lost }
