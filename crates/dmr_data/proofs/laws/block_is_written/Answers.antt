use Rattle.dmr_data.proofs.Existing.{block_somehow}
use Rattle.dmr_data.proofs.laws.block_is_written.Goals as goal

pub returns : goal.returns
returns c = record { law = block_somehow }
