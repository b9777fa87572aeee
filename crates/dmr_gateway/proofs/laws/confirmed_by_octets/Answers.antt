use Rattle.dmr_gateway.proofs.Confirming as confirming
use Rattle.dmr_gateway.proofs.laws.confirmed_by_octets.Goals as goal

pub returns : goal.returns
returns c = record { law = confirming.confirmed_by_octets }
