use Rattle.std.proofs.Common.{◌≡◌, ℕ, ◌+◌, ◌-◌, ◌<◌, sym, ap, ◌∙◌, arith, subst}
use Rattle.dmr_bits.specs.Words.{word_bits}
use Rattle.dmr_bits.proofs.Widths.{written, spliced_bits, spliced_fits}
use Rattle.dmr_bits.proofs.words.write_word.Goals as goal

pub overflow_add-result : goal.overflow_add-result
overflow_add-result c =
    let below : ℕ = 64 - c.args.at - c.args.width in
    let P : ℕ → Type 0 = λ n. n < 18446744073709551616 in
    let whole : c.args.at + (c.args.width + below) ≡ 64 = omega arith in
    let small : c.args.word < 18446744073709551616 = omega arith in
    let done : P _ = subst P
    (sym (written c.args.word c.args.at c.args.width c.args.value c.read_word-old.result c.requires.inside c.requires.fits
    c.read_word-old.ensures.number))
    (spliced_fits c.args.at c.args.width below c.args.word c.args.value whole small c.requires.fits) in
    omega arith

pub returns : goal.returns
returns c =
    let below : ℕ = 64 - c.args.at - c.args.width in
    let whole : c.args.at + (c.args.width + below) ≡ 64 = omega arith in
    record {
      value = ap word_bits
          (written c.args.word c.args.at c.args.width c.args.value c.read_word-old.result c.requires.inside c.requires.fits
          c.read_word-old.ensures.number)
          ∙ spliced_bits c.args.at c.args.width below c.args.word c.args.value whole c.requires.fits;
    }
