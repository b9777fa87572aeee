use Rattle.std.proofs.Common.{rules}
use Rattle.dmr_data.proofs.block.Block.copy.Goals as goal

pub returns : goal.returns
returns c = search rules
