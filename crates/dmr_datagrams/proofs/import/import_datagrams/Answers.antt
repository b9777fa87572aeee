use Rattle.std.proofs.Common.{rules}
use Rattle.dmr_datagrams.proofs.import.import_datagrams.Goals as goal

pub returns-clause-memory : goal.returns-clause-memory
returns-clause-memory c = search rules
