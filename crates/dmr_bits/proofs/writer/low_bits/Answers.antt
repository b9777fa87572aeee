use Rattle.std.proofs.Common.{ℕ, ◌^◌, ◌<◌, ◌∙◌, sym, ap, subst, mod-lt}
use Rattle.std.proofs.lemmas.Nat.{pow_pos}
use Rattle.dmr_bits.specs.Bits.{bits_of}
use Rattle.dmr_bits.proofs.Widths.{low_shifted, bits_of-mod}
use Rattle.dmr_bits.proofs.writer.low_bits.Goals as goal

pub returns-clause-value : goal.returns-clause-value
returns-clause-value c = ap (bits_of c.args.width) (low_shifted c.args.number c.args.width c.requires.narrow)
    ∙ bits_of-mod c.args.width c.args.number

pub returns-clause-fits : goal.returns-clause-fits
returns-clause-fits c =
    let P : ℕ → Type 0 = λ n. n < 2 ^ c.args.width in
    subst P (sym (low_shifted c.args.number c.args.width c.requires.narrow)) (mod-lt c.args.number (pow_pos c.args.width))
