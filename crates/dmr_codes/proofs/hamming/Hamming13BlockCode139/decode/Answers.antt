use Rattle.dmr_codes.specs.Seven.{hamming13_columns, hamming13_shaped}
use Rattle.dmr_codes.proofs.AllWords.{hamming13_words, hamming13_tells}
use Rattle.dmr_codes.proofs.hamming.Hamming13BlockCode139.decode.Goals as goal

pub returns-clause-within : goal.returns-clause-within
returns-clause-within c = c.nearest.ensures.within hamming13_columns hamming13_shaped hamming13_words

pub returns-clause-only : goal.returns-clause-only
returns-clause-only c = c.nearest.ensures.only hamming13_columns hamming13_shaped hamming13_words hamming13_tells
