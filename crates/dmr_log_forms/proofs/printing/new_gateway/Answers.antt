use Rattle.std.proofs.Common.{rules}
use Rattle.dmr_log_forms.proofs.printing.new_gateway.Goals as goal

pub returns-then-llid-eq0-clause-fault : goal.returns-then-llid-eq0-clause-fault
returns-then-llid-eq0-clause-fault c = search rules
