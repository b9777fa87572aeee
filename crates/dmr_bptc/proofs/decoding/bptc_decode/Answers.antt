use Rattle.std.proofs.Common.{Some, None}
use Rattle.dmr_bptc.proofs.Decoded.{undone}
use Rattle.dmr_bptc.proofs.decoding.bptc_decode.Goals as goal

pub returns-in-Some-clause-undone : goal.returns-in-Some-clause-undone
returns-in-Some-clause-undone c word is damaged =
    undone c.args.bits.now word (Some c.in-Some.restored.information) c.in-Some.ensures.decoded is damaged

pub returns-in-None-clause-undone : goal.returns-in-None-clause-undone
returns-in-None-clause-undone c word is damaged = undone c.args.bits.now word None c.in-None.ensures.decoded is damaged
