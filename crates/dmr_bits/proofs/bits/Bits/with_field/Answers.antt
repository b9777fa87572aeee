use Rattle.std.proofs.Common.{sym, ap, ◌∙◌, length}
use Rattle.dmr_bits.specs.Bits.{bits_of}
use Rattle.dmr_bits.proofs.Lists.{length-bits_of}
use Rattle.dmr_bits.proofs.Packed.{put_packed, put_unpacked, length-unpacked}
use Rattle.dmr_bits.proofs.bits.Bits.with_field.Goals as goal

pub invariant_of-result : goal.invariant_of-result
invariant_of-result g c =
    put_packed g.row.N c.self.inside.words c.write.new.words (bits_of c.args.width c.args.value) c.args.at c.args.width
    c.self.invariant (length-bits_of c.args.width c.args.value) c.requires.inside c.write.ensures.long c.write.ensures.small
    c.write.ensures.value

pub returns-clause-value : goal.returns-clause-value
returns-clause-value g c =
    rw (← c.self.view_is)
    (put_unpacked g.row.N c.self.inside.words c.write.new.words (bits_of c.args.width c.args.value) c.args.at c.args.width
    c.self.invariant (length-bits_of c.args.width c.args.value) c.requires.inside c.write.ensures.value)

pub returns-clause-length : goal.returns-clause-length
returns-clause-length g c = ap length (sym c.self.view_is) ∙ length-unpacked g.row.N c.self.inside.words c.self.invariant
