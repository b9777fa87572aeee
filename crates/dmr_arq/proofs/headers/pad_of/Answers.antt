use Rattle.std.proofs.Common.{rules}
use Rattle.dmr_arq.proofs.headers.pad_of.Goals as goal

pub returns-in-ShortData : goal.returns-in-ShortData
returns-in-ShortData c = search rules
