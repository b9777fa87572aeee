use Rattle.std.proofs.Common.{rules}
use Rattle.dmr_record.proofs.downlink.write_slot.Goals as goal

pub returns-in-None-clause-slot : goal.returns-in-None-clause-slot
returns-in-None-clause-slot g c = search rules
