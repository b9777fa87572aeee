use Rattle.std.proofs.Common.{rules}
use Rattle.dmr_arq.proofs.serials.selection_of.Goals as goal

pub returns-then-len-eq0 : goal.returns-then-len-eq0
returns-then-len-eq0 c = search rules

pub returns : goal.returns
returns c = search rules
