use Rattle.std.proofs.Common.{rules}
use Rattle.dmr_arq.proofs.table.Table.next_number.Goals as goal

pub returns-in-Some : goal.returns-in-Some
returns-in-Some c = search rules
