use Rattle.dmr_log.proofs.Pieces.{each_burst_is_in_one}
use Rattle.dmr_log.proofs.laws.each_burst_is_in_one.Goals as goal

pub returns : goal.returns
returns c = record { law = each_burst_is_in_one }
