use Rattle.dmr_gateway.proofs.KeptOctets.{kept}
use Rattle.dmr_gateway.proofs.laws.keeps_enough.Goals as goal

pub returns : goal.returns
returns c = record { law = kept }
