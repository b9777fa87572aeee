use Rattle.std.proofs.Common.{sym, ap, ◌∙◌, length, take, drop}
use Rattle.dmr_bits.specs.Bits.{number_of}
use Rattle.dmr_bits.proofs.Packed.{length-unpacked, field_unpacked}
use Rattle.dmr_bits.proofs.bits.Bits.field.Goals as goal

pub returns-clause-length : goal.returns-clause-length
returns-clause-length g c = ap length (sym c.self.view_is) ∙ length-unpacked g.row.N c.self.inside.words c.self.invariant

pub returns-clause-value : goal.returns-clause-value
returns-clause-value g c =
    field_unpacked g.row.N c.self.inside.words c.args.at c.args.width c.read.result c.self.invariant c.requires.inside
    c.read.ensures.value c.read.ensures.bound
    ∙ ap (λ l. number_of (take c.args.width (drop c.args.at l))) c.self.view_is
