use Rattle.std.proofs.Common.{rules}
use Rattle.dmr_arq.proofs.sender.Sender.has_next.Goals as goal

pub returns-in-Due : goal.returns-in-Due
returns-in-Due c = search rules
