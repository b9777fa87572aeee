use Rattle.std.proofs.Common.{rules}
use Rattle.dmr_arq.proofs.receiver.Receiver.open_try.Goals as goal

pub returns : goal.returns
returns c = search rules
