use Rattle.std.proofs.Common.{rules}
use Rattle.dmr_show.proofs.showing.show.Goals as goal

pub returns-clause-whole : goal.returns-clause-whole
returns-clause-whole g c = search rules

pub returns-clause-strip : goal.returns-clause-strip
returns-clause-strip g c = search rules

pub returns-clause-out_failed : goal.returns-clause-out_failed
returns-clause-out_failed g c = search rules
