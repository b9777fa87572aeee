use Rattle.std.proofs.Common.{rules}
use Rattle.dmr_c.proofs.calls.exchange_with.Goals as goal

pub returns-clause-done : goal.returns-clause-done
returns-clause-done c = search rules
