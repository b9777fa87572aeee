use Rattle.std.proofs.Common.{◌-◌, take, drop, length, sym, ap, ◌∙◌, arith}
use Rattle.dmr_bits.specs.Bits.{part, put_at}
use Rattle.dmr_bits.specs.Words.{bits_of_words, unpacked, IsPacked}
use Rattle.dmr_bits.proofs.Packed.{length-unpacked, put_packed, copied_part, copied_length, read_unpacked}
use Rattle.dmr_bits.proofs.bits.Bits.put_part.Goals as goal

pub returns-clause-length : goal.returns-clause-length
returns-clause-length g c = ap length (sym c.self.view_is) ∙ length-unpacked g.row.N c.self.inside.words c.self.invariant

pub returns-clause-other_length : goal.returns-clause-other_length
returns-clause-other_length g c = ap length (sym c.new.view_is) ∙ length-unpacked g.row.M c.new.inside.words c.new.invariant

pub invariant_of-self : goal.invariant_of-self
invariant_of-self g c =
    put_packed g.row.N c.self.inside.words c.copy.new.words
    (take (c.args.to - c.args.from) (drop c.args.from (bits_of_words c.new.inside.words))) c.args.at (c.args.to - c.args.from)
    c.self.invariant
    (copied_length g.row.M c.new.inside.words c.args.from c.args.to c.new.invariant c.requires.order c.requires.bound)
    c.requires.room c.copy.ensures.long c.copy.ensures.small c.copy.ensures.value

pub returns-clause-value : goal.returns-clause-value
returns-clause-value g c =
    copied_part g.row.N g.row.M c.self.inside.words c.copy.new.words c.new.inside.words c.args.at c.args.from c.args.to
    c.self.invariant c.new.invariant c.requires.order c.requires.bound c.requires.room c.copy.ensures.value
    ∙ ap (λ l. put_at l c.args.at (part (unpacked g.row.M c.new.inside.words) c.args.from c.args.to)) c.self.view_is
    ∙ ap (λ l. put_at c.args.self.now c.args.at (part l c.args.from c.args.to)) c.new.view_is

pub returns-clause-kept : goal.returns-clause-kept
returns-clause-kept g c =
    let done : IsPacked g.row.N c.copy.new.words =
    put_packed g.row.N c.self.inside.words c.copy.new.words
    (take (c.args.to - c.args.from) (drop c.args.from (bits_of_words c.new.inside.words))) c.args.at (c.args.to - c.args.from)
    c.self.invariant
    (copied_length g.row.M c.new.inside.words c.args.from c.args.to c.new.invariant c.requires.order c.requires.bound)
    c.requires.room c.copy.ensures.long c.copy.ensures.small c.copy.ensures.value in
    length-unpacked g.row.N c.copy.new.words done

pub returns-clause-count : goal.returns-clause-count
returns-clause-count g c =
    ap (λ l. length (part l c.args.from c.args.to)) (sym c.new.view_is)
    ∙ ap length (read_unpacked g.row.M c.new.inside.words c.args.from (c.args.to - c.args.from) c.new.invariant (omega arith))
    ∙ copied_length g.row.M c.new.inside.words c.args.from c.args.to c.new.invariant c.requires.order c.requires.bound
