use Rattle.dmr_bptc.proofs.Existing.{written_somehow}
use Rattle.dmr_bptc.proofs.laws.information_is_written.Goals as goal

pub returns : goal.returns
returns c = record { law = written_somehow }
