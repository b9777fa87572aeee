use Rattle.std.proofs.Common.{length, sym, ap, ◌∙◌}
use Rattle.dmr_bits.specs.Bits.{part}
use Rattle.dmr_bits.proofs.Packed.{length-unpacked, part_packed, part_unpacked}
use Rattle.dmr_bits.proofs.bits.Bits.part.Goals as goal

pub invariant_of-result : goal.invariant_of-result
invariant_of-result g c =
    part_packed g.row.N g.row.M c.self.inside.words c.copy.new.words c.args.from c.args.to c.self.invariant c.requires.order
    c.requires.bound c.requires.fit c.copy.ensures.long c.copy.ensures.small c.copy.ensures.value

pub returns-clause-value : goal.returns-clause-value
returns-clause-value g c =
    part_unpacked g.row.N g.row.M c.self.inside.words c.copy.new.words c.args.from c.args.to c.self.invariant c.requires.order
    c.requires.bound c.requires.fit c.copy.ensures.value
    ∙ ap (λ l. part l c.args.from c.args.to) c.self.view_is

pub returns-clause-count : goal.returns-clause-count
returns-clause-count g c =
    length-unpacked g.row.M c.copy.new.words
    (part_packed g.row.N g.row.M c.self.inside.words c.copy.new.words c.args.from c.args.to c.self.invariant c.requires.order
    c.requires.bound c.requires.fit c.copy.ensures.long c.copy.ensures.small c.copy.ensures.value)
    ∙ sym c.requires.fit

pub returns-clause-length : goal.returns-clause-length
returns-clause-length g c = ap length (sym c.self.view_is) ∙ length-unpacked g.row.N c.self.inside.words c.self.invariant
