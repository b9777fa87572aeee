use Rattle.std.proofs.Common.{arith}
use Rattle.dmr_damage.proofs.Written.{two}
use Rattle.dmr_damage.proofs.layout.write_information.Goals as goal

pub returns-clause-sync : goal.returns-clause-sync
returns-clause-sync c = c.put_halves.ensures.between 108 156 (omega arith) (omega arith) (omega arith)

pub returns-clause-slot_type : goal.returns-clause-slot_type
returns-clause-slot_type c =
    two _ _ _ _ (c.put_halves.ensures.between 98 108 (omega arith) (omega arith) (omega arith))
    (c.put_halves.ensures.between 156 166 (omega arith) (omega arith) (omega arith))
