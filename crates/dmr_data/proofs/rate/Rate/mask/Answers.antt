use Rattle.std.proofs.Common.{rules}
use Rattle.dmr_data.proofs.rate.Rate.mask.Goals as goal

pub returns-in-Full-clause-value : goal.returns-in-Full-clause-value
returns-in-Full-clause-value c = search rules
