use Rattle.std.proofs.Common.{rules}
use Rattle.dmr_arq.proofs.receiver.Receiver.is_at_last.Goals as goal

pub returns-in-Some : goal.returns-in-Some
returns-in-Some c = search rules
