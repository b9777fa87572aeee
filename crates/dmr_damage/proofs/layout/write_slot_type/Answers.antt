use Rattle.std.proofs.Common.{arith}
use Rattle.dmr_burst.specs.SlotType.{slot_type_of}
use Rattle.dmr_damage.proofs.Marked.{word_of}
use Rattle.dmr_damage.proofs.Written.{two}
use Rattle.dmr_damage.proofs.layout.write_slot_type.Goals as goal

pub returns-in-Some-clause-unread : goal.returns-in-Some-clause-unread
returns-in-Some-clause-unread c none =
    let read = word_of c.args.bits.now c.halves.result c.decode.result c.in-Some.word c.halves.ensures.value c.in-Some.is
    c.decode.ensures.within in
    absurd (none (slot_type_of c.in-Some.word) read)

pub returns-in-Some-clause-sync : goal.returns-in-Some-clause-sync
returns-in-Some-clause-sync c = c.put_halves.ensures.between 108 156 (omega arith) (omega arith) (omega arith)

pub returns-in-Some-clause-information : goal.returns-in-Some-clause-information
returns-in-Some-clause-information c =
    two _ _ _ _ (c.put_halves.ensures.front 0 98 (omega arith) (omega arith))
    (c.put_halves.ensures.behind 166 264 (omega arith) (omega arith) (omega arith))
