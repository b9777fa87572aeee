use Rattle.dmr_log.proofs.Pieces.{all_bursts_are_told}
use Rattle.dmr_log.proofs.laws.all_bursts_are_told.Goals as goal

pub returns : goal.returns
returns c = record { law = all_bursts_are_told }
