use Rattle.std.proofs.Common.{rules}
use Rattle.dmr_record.proofs.head.read_any_head.Goals as goal

pub returns-in-Some-2-clause-head : goal.returns-in-Some-2-clause-head
returns-in-Some-2-clause-head g c = search rules
