use Rattle.dmr_gateway.proofs.OneOfEach.{heard_alike}
use Rattle.dmr_gateway.proofs.laws.one_hearing.Goals as goal

pub returns : goal.returns
returns c = record { law = heard_alike }
