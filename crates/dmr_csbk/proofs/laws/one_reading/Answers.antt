use Rattle.dmr_csbk.proofs.Blocks.{same_block}
use Rattle.dmr_csbk.proofs.laws.one_reading.Goals as goal

pub returns : goal.returns
returns c = record { law = same_block }
