use Rattle.dmr_log_laws.proofs.CallsTold.{calls_are_told}
use Rattle.dmr_log_laws.proofs.laws.calls_are_told.Goals as goal

pub returns : goal.returns
returns c = record { law = calls_are_told }
