use Rattle.dmr_log_laws.proofs.TriesTold.{tries_are_told}
use Rattle.dmr_log_laws.proofs.laws.tries_are_told.Goals as goal

pub returns : goal.returns
returns c = record { law = tries_are_told }
