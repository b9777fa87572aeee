use Rattle.std.proofs.Common.{rules}
use Rattle.dmr_record.proofs.outgoing.read_outgoing.Goals as goal

pub returns-clause-sending : goal.returns-clause-sending
returns-clause-sending g c = search rules

pub returns-in_err-is_read-clause-fault : goal.returns-in_err-is_read-clause-fault
returns-in_err-is_read-clause-fault g c = search rules
