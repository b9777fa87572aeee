use Rattle.dmr_csbk.proofs.Blocks.{read_back}
use Rattle.dmr_csbk.proofs.laws.what_is_written_is_read_back.Goals as goal

pub returns : goal.returns
returns c = record { law = read_back }
