use Rattle.std.proofs.Common.{ℕ, ◌-◌, ◌/◌, ◌^◌, ◌<◌, sym, ap, ◌∙◌, subst, mod-lt}
use Rattle.std.proofs.lemmas.Nat.{pow_pos}
use Rattle.dmr_bits.specs.Bits.{bits_of}
use Rattle.dmr_bits.proofs.Widths.{read_shifted, read_middle}
use Rattle.dmr_bits.proofs.words.read_word.Goals as goal

pub returns-clause-number : goal.returns-clause-number
returns-clause-number c = read_shifted c.args.word c.args.at c.args.width c.requires.inside

pub returns-clause-value : goal.returns-clause-value
returns-clause-value c =
    ap (bits_of c.args.width) (read_shifted c.args.word c.args.at c.args.width c.requires.inside)
    ∙ read_middle c.args.word c.args.at c.args.width c.requires.inside

pub returns-clause-bound : goal.returns-clause-bound
returns-clause-bound c =
    let P : ℕ → Type 0 = λ n. n < 2 ^ c.args.width in
    subst P (sym (read_shifted c.args.word c.args.at c.args.width c.requires.inside))
    (mod-lt (c.args.word / 2 ^ (64 - c.args.at - c.args.width)) (pow_pos c.args.width))
