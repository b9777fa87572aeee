use Rattle.std.proofs.Common.{rules}
use Rattle.dmr_data.proofs.packet.Blocks.push.Goals as goal

pub returns : goal.returns
returns c = search rules
