use Rattle.dmr_gateway.proofs.WholeAttempts as lasting
use Rattle.dmr_gateway.proofs.laws.attempts_stand.Goals as goal

pub returns : goal.returns
returns c = record { law = lasting.attempts_stand }
