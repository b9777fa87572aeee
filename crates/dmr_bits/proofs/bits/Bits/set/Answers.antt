use Rattle.std.proofs.Common.{sym, ap, ◌∙◌, length, ◌≡◌, ◌+◌, Bool, true, false, cond, ◌++◌, take, drop, set, refl, arith}
use mir.Val.{bool_byte}
use Rattle.dmr_bits.specs.Bits.{bits_of}
use Rattle.dmr_bits.specs.Words.{bits_of_words}
use Rattle.dmr_bits.proofs.Lists.{length-bits_of}
use Rattle.dmr_bits.proofs.Packed.{length-unpacked, put_packed, set_unpacked}
use Rattle.dmr_bits.proofs.bits.Bits.set.Goals as goal

pub returns-clause-length : goal.returns-clause-length
returns-clause-length g c = ap length (sym c.self.view_is) ∙ length-unpacked g.row.N c.self.inside.words c.self.invariant

bit_byte : (b : Bool) → bool_byte b ≡ cond b 1 0
bit_byte true = refl
bit_byte false = refl

pub invariant_of-self : goal.invariant_of-self
invariant_of-self g c =
    put_packed g.row.N c.self.inside.words c.write.new.words (bits_of 1 c.from.result) c.args.i 1 c.self.invariant
    (length-bits_of 1 c.from.result) (omega arith) c.write.ensures.long c.write.ensures.small c.write.ensures.value

pub returns-clause-value : goal.returns-clause-value
returns-clause-value g c =
    let value : c.from.result ≡ cond c.args.bit 1 0 = c.from.ensures ∙ bit_byte c.args.bit in
    set_unpacked g.row.N c.self.inside.words c.write.new.words c.args.i c.args.bit c.self.invariant c.requires.inside
    (c.write.ensures.value
    ∙ ap (λ v. take c.args.i (bits_of_words c.self.inside.words)
    ++ (bits_of 1 v ++ drop (c.args.i + 1) (bits_of_words c.self.inside.words))) value)
    ∙ ap (λ l. set l c.args.i c.args.bit) c.self.view_is
