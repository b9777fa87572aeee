use Rattle.dmr_making.proofs.Recorded.{made_recorded}
use Rattle.dmr_making.proofs.laws.made_is_recorded.Goals as goal

pub returns : goal.returns
returns c = record { law = made_recorded }
