use Rattle.dmr_gateway.proofs.OneOfEach.{sent_alike}
use Rattle.dmr_gateway.proofs.laws.one_burst.Goals as goal

pub returns : goal.returns
returns c = record { law = sent_alike }
