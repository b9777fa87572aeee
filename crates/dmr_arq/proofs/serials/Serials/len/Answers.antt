use Rattle.std.proofs.Common.{rules}
use Rattle.dmr_arq.proofs.serials.Serials.len.Goals as goal

pub returns-clause-value : goal.returns-clause-value
returns-clause-value c = search rules
