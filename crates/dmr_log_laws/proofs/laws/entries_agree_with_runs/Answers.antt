use Rattle.dmr_log_laws.proofs.Agreeing.{agrees_with_runs}
use Rattle.dmr_log_laws.proofs.laws.entries_agree_with_runs.Goals as goal

pub returns : goal.returns
returns c = record { law = agrees_with_runs c.all_bursts_are_told.ensures.law }
