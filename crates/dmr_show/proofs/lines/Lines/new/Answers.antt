use Rattle.std.proofs.Common.{rules}
use Rattle.dmr_show.proofs.lines.Lines.new.Goals as goal

pub returns-clause-filter : goal.returns-clause-filter
returns-clause-filter g c = search rules
