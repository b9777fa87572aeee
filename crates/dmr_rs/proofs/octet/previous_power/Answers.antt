use Rattle.std.proofs.Common.{arith}
use Rattle.dmr_rs.proofs.Field.{times_x-odd}
use Rattle.dmr_rs.proofs.octet.previous_power.Goals as goal

pub returns-else-octet-eq0 : goal.returns-else-octet-eq0
returns-else-octet-eq0 c = record { value = times_x-odd c.args.octet (omega arith) c.if-octet-eq0.false }
