use Rattle.std.proofs.Common.{rules}
use Rattle.dmr_arq.proofs.table.make_room.Goals as goal

pub returns-then-is_full-clause-kept : goal.returns-then-is_full-clause-kept
returns-then-is_full-clause-kept c = search rules
