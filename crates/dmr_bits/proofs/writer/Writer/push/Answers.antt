use Rattle.std.proofs.Common.{◌≡◌, ℕ, ◌+◌, ◌≤◌, List, Bool, ◌++◌, take, length, sym, ap, ◌∙◌, arith}
use Rattle.std.proofs.lemmas.List.{length-append, length-take-le}
use Rattle.dmr_bits.specs.Bits.{bits_of}
use Rattle.dmr_bits.proofs.Lists.{length-bits_of, length-with_field}
use Rattle.dmr_bits.proofs.Widths.{pushed_bits}
use Rattle.dmr_bits.proofs.writer.Writer.push.Goals as goal

filled_is : {n : ℕ} (filled : ℕ) (P old : List Bool) → filled ≤ n → length P ≡ n → take filled P ≡ old → filled ≡ length old
filled_is filled P old h e v = sym (length-take-le filled P (omega arith)) ∙ ap length v

pub invariant_of-self : goal.invariant_of-self
invariant_of-self g c =
    let B : List Bool = bits_of c.args.width c.low_bits.result in
    let at : ℕ = c.self.inside.filled in
    let now : at ≡ length c.args.self.now =
    filled_is at c.self.inside.places c.args.self.now c.self.invariant.0 c.self.invariant.1 c.self.view_is in
    let room : at + c.args.width ≤ g.row.N = omega (arith, now, c.requires.room) in (
      room,
      ap length c.with_field-self-inside.ensures.value
          ∙ length-with_field c.self.inside.places B at c.args.width (length-bits_of c.args.width c.low_bits.result)
          (omega (arith, room, c.self.invariant.1)) ∙ c.self.invariant.1,
    )

pub returns-clause-written : goal.returns-clause-written
returns-clause-written g c =
    let B : List Bool = bits_of c.args.width c.low_bits.result in
    let at : ℕ = c.self.inside.filled in
    let now : at ≡ length c.args.self.now =
    filled_is at c.self.inside.places c.args.self.now c.self.invariant.0 c.self.invariant.1 c.self.view_is in
    ap (take (at + c.args.width)) c.with_field-self-inside.ensures.value
    ∙ pushed_bits c.self.inside.places B at c.args.width (length-bits_of c.args.width c.low_bits.result)
    (omega (arith, now, c.requires.room, c.self.invariant.1))
    ∙ ap (λ l. take at c.self.inside.places ++ l) c.low_bits.ensures.value
    ∙ ap (λ l. l ++ bits_of c.args.width c.args.number) c.self.view_is

pub returns-clause-length : goal.returns-clause-length
returns-clause-length g c =
    ap length (returns-clause-written g c) ∙ length-append c.args.self.now (bits_of c.args.width c.args.number)
    ∙ ap (λ n. length c.args.self.now + n) (length-bits_of c.args.width c.args.number)
