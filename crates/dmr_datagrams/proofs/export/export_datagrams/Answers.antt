use Rattle.std.proofs.Common.{rules}
use Rattle.dmr_datagrams.proofs.export.export_datagrams.Goals as goal

pub returns-clause-memory : goal.returns-clause-memory
returns-clause-memory c = search rules
