use Rattle.dmr_hearing.proofs.Damaged.{recorded_is_heard}
use Rattle.dmr_hearing.proofs.laws.recorded_is_heard.Goals as goal

pub returns : goal.returns
returns c = record { law = recorded_is_heard }
