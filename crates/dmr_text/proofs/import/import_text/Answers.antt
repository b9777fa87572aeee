use Rattle.std.proofs.Common.{rules}
use Rattle.dmr_text.proofs.import.import_text.Goals as goal

pub returns-clause-memory : goal.returns-clause-memory
returns-clause-memory c = search rules
