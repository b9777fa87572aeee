use Rattle.std.proofs.Common.{arith}
use Rattle.dmr_damage.proofs.Written.{two}
use Rattle.dmr_damage.proofs.layout.write_emb.Goals as goal

pub returns-in-Some-clause-embedded : goal.returns-in-Some-clause-embedded
returns-in-Some-clause-embedded c = c.put_halves.ensures.between 116 148 (omega arith) (omega arith) (omega arith)

pub returns-in-Some-clause-vocoder : goal.returns-in-Some-clause-vocoder
returns-in-Some-clause-vocoder c =
    two _ _ _ _ (c.put_halves.ensures.front 0 108 (omega arith) (omega arith))
    (c.put_halves.ensures.behind 156 264 (omega arith) (omega arith) (omega arith))
