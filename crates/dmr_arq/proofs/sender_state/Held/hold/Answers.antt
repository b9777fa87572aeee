use Rattle.std.proofs.Common.{rules}
use Rattle.dmr_arq.proofs.sender_state.Held.hold.Goals as goal

pub returns : goal.returns
returns c = search rules
