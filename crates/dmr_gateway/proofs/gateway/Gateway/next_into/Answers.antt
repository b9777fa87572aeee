use Rattle.std.proofs.Common.{rules}
use Rattle.dmr_gateway.proofs.gateway.Gateway.next_into.Goals as goal

pub returns-then-is_quiet-clause-burst : goal.returns-then-is_quiet-clause-burst
returns-then-is_quiet-clause-burst c = search rules

pub returns-then-is_quiet-clause-state : goal.returns-then-is_quiet-clause-state
returns-then-is_quiet-clause-state c = search rules
