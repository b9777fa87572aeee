use Rattle.std.proofs.Common.{ℕ, ◌≤◌, length, sym, ap, ◌∙◌, subst}
use Rattle.dmr_bits.specs.Bits.{weight, xor_bits}
use Rattle.dmr_bits.specs.Words.{unpacked}
use Rattle.dmr_bits.proofs.Packed.{length-unpacked, distance_unpacked, distance_bound}
use Rattle.dmr_bits.proofs.bits.Bits.distance.Goals as goal

pub returns-clause-length : goal.returns-clause-length
returns-clause-length g c = ap length (sym c.self.view_is) ∙ length-unpacked g.row.N c.self.inside.words c.self.invariant

pub returns-clause-other_length : goal.returns-clause-other_length
returns-clause-other_length g c = ap length (sym c.other.view_is) ∙ length-unpacked g.row.N c.other.inside.words c.other.invariant

pub returns-clause-value : goal.returns-clause-value
returns-clause-value g c =
    c.ones.ensures.value
    ∙ distance_unpacked g.row.N c.self.inside.words c.other.inside.words c.sum.result c.self.invariant c.other.invariant
    c.sum.ensures.long c.sum.ensures.small c.sum.ensures.value
    ∙ ap (λ l. weight (xor_bits l (unpacked g.row.N c.other.inside.words))) c.self.view_is
    ∙ ap (λ l. weight (xor_bits c.args.self.now l)) c.other.view_is

pub returns-clause-bound : goal.returns-clause-bound
returns-clause-bound g c =
    let P : ℕ → Type 0 = λ n. n ≤ g.row.N in
    subst P (sym (c.ones.ensures.value
    ∙ distance_unpacked g.row.N c.self.inside.words c.other.inside.words c.sum.result c.self.invariant c.other.invariant
    c.sum.ensures.long c.sum.ensures.small c.sum.ensures.value))
    (distance_bound g.row.N c.self.inside.words c.other.inside.words c.self.invariant c.other.invariant)
