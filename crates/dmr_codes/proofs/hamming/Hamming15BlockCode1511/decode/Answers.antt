use Rattle.dmr_codes.specs.Seven.{hamming15_columns, hamming15_shaped}
use Rattle.dmr_codes.proofs.AllWords.{hamming15_words, hamming15_tells}
use Rattle.dmr_codes.proofs.hamming.Hamming15BlockCode1511.decode.Goals as goal

pub returns-clause-within : goal.returns-clause-within
returns-clause-within c = c.nearest.ensures.within hamming15_columns hamming15_shaped hamming15_words

pub returns-clause-only : goal.returns-clause-only
returns-clause-only c = c.nearest.ensures.only hamming15_columns hamming15_shaped hamming15_words hamming15_tells
