use Rattle.std.proofs.Common.{sym, ap, ◌∙◌, length, get_or, false}
use Rattle.dmr_bits.proofs.Packed.{length-unpacked, bit_unpacked}
use Rattle.dmr_bits.proofs.bits.Bits.get.Goals as goal

pub returns-clause-length : goal.returns-clause-length
returns-clause-length g c = ap length (sym c.self.view_is) ∙ length-unpacked g.row.N c.self.inside.words c.self.invariant

pub returns-clause-value : goal.returns-clause-value
returns-clause-value g c =
    bit_unpacked g.row.N c.self.inside.words c.args.i c.read.result c.self.invariant c.requires.inside c.read.ensures.value
    c.read.ensures.bound
    ∙ ap (λ l. get_or l c.args.i false) c.self.view_is
