use Rattle.std.proofs.Common.{rules}
use Rattle.dmr_arq.proofs.sender.Sender.blocks.Goals as goal

pub returns-then-self : goal.returns-then-self
returns-then-self c = search rules
