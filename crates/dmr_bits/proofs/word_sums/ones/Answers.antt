use Rattle.std.proofs.Common.{arith}
use Rattle.dmr_bits.proofs.Sums.{ones_words}
use Rattle.dmr_bits.proofs.word_sums.ones.Goals as goal

pub returns-clause-value : goal.returns-clause-value
returns-clause-value c = ones_words c.args.words.now c.told-words (λ k h. c.requires.small k 0 (omega arith))
