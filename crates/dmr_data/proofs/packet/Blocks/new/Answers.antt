use Rattle.std.proofs.Common.{rules}
use Rattle.dmr_data.proofs.packet.Blocks.new.Goals as goal

pub returns : goal.returns
returns c = search rules
