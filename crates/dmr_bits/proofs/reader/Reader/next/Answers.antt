use Rattle.std.proofs.Common.{◌≡◌, ℕ, ◌+◌, ◌-◌, ◌++◌, ◌∙◌, sym, ap, arith, drop, length}
use Rattle.dmr_bits.specs.Bits.{bits_of}
use Rattle.dmr_bits.proofs.Widths.{read_bits}
use Rattle.std.proofs.lemmas.List.{length-drop}
use Rattle.dmr_bits.proofs.reader.Reader.next.Goals as goal

pub returns-clause-read : goal.returns-clause-read
returns-clause-read g c =
    let at : ℕ = g.row.N - c.self.inside.left in
    let rest = ap length (sym c.self.view_is) ∙ length-drop at c.self.inside.bits in
    let end : at + c.args.width ≡ g.row.N - (c.self.inside.left - c.args.width) = omega (arith, rest) in
    sym c.self.view_is
    ∙ read_bits c.self.inside.bits at c.args.width c.field-number.result (omega (arith, rest)) c.field-number.ensures.value
    ∙ ap (λ k. bits_of c.args.width c.field-number.result ++ drop k c.self.inside.bits) end
