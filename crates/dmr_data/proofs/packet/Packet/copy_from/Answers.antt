use Rattle.std.proofs.Common.{rules}
use Rattle.dmr_data.proofs.packet.Packet.copy_from.Goals as goal

pub returns : goal.returns
returns c = search rules
