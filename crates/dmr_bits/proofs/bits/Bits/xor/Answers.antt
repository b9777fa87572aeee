use Rattle.std.proofs.Common.{length, sym, ap, ◌∙◌}
use Rattle.dmr_bits.specs.Bits.{xor_bits}
use Rattle.dmr_bits.specs.Words.{unpacked}
use Rattle.dmr_bits.proofs.Packed.{length-unpacked, sum_packed, sum_unpacked}
use Rattle.dmr_bits.proofs.bits.Bits.xor.Goals as goal

pub returns-clause-length : goal.returns-clause-length
returns-clause-length g c = ap length (sym c.self.view_is) ∙ length-unpacked g.row.N c.self.inside.words c.self.invariant

pub returns-clause-other_length : goal.returns-clause-other_length
returns-clause-other_length g c = ap length (sym c.other.view_is) ∙ length-unpacked g.row.N c.other.inside.words c.other.invariant

pub invariant_of-result : goal.invariant_of-result
invariant_of-result g c =
    sum_packed g.row.N c.self.inside.words c.other.inside.words c.sum.result c.self.invariant c.other.invariant c.sum.ensures.long
    c.sum.ensures.small c.sum.ensures.value

pub returns-clause-value : goal.returns-clause-value
returns-clause-value g c =
    sum_unpacked g.row.N c.self.inside.words c.other.inside.words c.sum.result c.sum.ensures.value
    ∙ ap (λ l. xor_bits l (unpacked g.row.N c.other.inside.words)) c.self.view_is
    ∙ ap (xor_bits c.args.self.now) c.other.view_is
