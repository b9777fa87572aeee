use Rattle.dmr_gateway.proofs.FourTries.{four_tries}
use Rattle.dmr_gateway.proofs.laws.four_tries.Goals as goal

pub returns : goal.returns
returns c = record { law = four_tries }
