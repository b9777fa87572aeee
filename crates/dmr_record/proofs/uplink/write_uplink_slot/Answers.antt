use Rattle.std.proofs.Common.{rules}
use Rattle.dmr_record.proofs.uplink.write_uplink_slot.Goals as goal

pub returns-in-None-clause-slot : goal.returns-in-None-clause-slot
returns-in-None-clause-slot g c = search rules

pub returns-in-Some-clause-slot : goal.returns-in-Some-clause-slot
returns-in-Some-clause-slot g c = search rules
