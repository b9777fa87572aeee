use Rattle.dmr_log_laws.proofs.Agreeing.{tells_whole_logs}
use Rattle.dmr_log_laws.proofs.laws.whole_recordings_are_told.Goals as goal

pub returns : goal.returns
returns g c = record { law = tells_whole_logs _ _ }
