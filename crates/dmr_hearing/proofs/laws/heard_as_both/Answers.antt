use Rattle.dmr_hearing.proofs.HeardAsBoth.{heard_as_both}
use Rattle.dmr_hearing.proofs.laws.heard_as_both.Goals as goal

pub returns : goal.returns
returns c = record { law = heard_as_both }
