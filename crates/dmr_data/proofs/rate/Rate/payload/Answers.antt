use Rattle.std.proofs.Common.{rules}
use Rattle.dmr_data.proofs.rate.Rate.payload.Goals as goal

pub returns-then-confirmed-clause-value : goal.returns-then-confirmed-clause-value
returns-then-confirmed-clause-value c = search rules

pub returns-then-confirmed-clause-pairs : goal.returns-then-confirmed-clause-pairs
returns-then-confirmed-clause-pairs c = search rules
