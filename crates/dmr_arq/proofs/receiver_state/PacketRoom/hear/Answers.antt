use Rattle.std.proofs.Common.{rules}
use Rattle.dmr_arq.proofs.receiver_state.PacketRoom.hear.Goals as goal

pub returns-in-InProgress : goal.returns-in-InProgress
returns-in-InProgress c = search rules
