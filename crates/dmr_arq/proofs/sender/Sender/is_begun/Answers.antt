use Rattle.std.proofs.Common.{rules}
use Rattle.dmr_arq.proofs.sender.Sender.is_begun.Goals as goal

pub returns-in-Sending : goal.returns-in-Sending
returns-in-Sending c = search rules
