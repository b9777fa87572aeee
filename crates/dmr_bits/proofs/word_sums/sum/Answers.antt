use Rattle.std.proofs.Common.{arith}
use Rattle.dmr_bits.proofs.Sums.{sum_words, sum_small}
use Rattle.dmr_bits.proofs.word_sums.sum.Goals as goal

pub returns-clause-value : goal.returns-clause-value
returns-clause-value c = sum_words c.args.words.now c.args.other.now c.told-words c.told-other

pub returns-clause-small : goal.returns-clause-small
returns-clause-small c =
    sum_small c.args.words.now c.args.other.now (λ k h. c.requires.words k 0 (omega arith))
    (λ k h. c.requires.other k 0 (omega arith))
