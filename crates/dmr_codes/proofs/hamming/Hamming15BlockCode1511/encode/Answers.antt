use Rattle.dmr_codes.specs.Seven.{hamming15_columns, hamming15_shaped}
use Rattle.dmr_codes.proofs.AllWords.{hamming15_words}
use Rattle.dmr_codes.proofs.hamming.Hamming15BlockCode1511.encode.Goals as goal

pub returns-clause-word : goal.returns-clause-word
returns-clause-word c = c.word_of.ensures.word hamming15_columns hamming15_shaped hamming15_words

pub returns-clause-information : goal.returns-clause-information
returns-clause-information c = c.word_of.ensures.information hamming15_columns hamming15_shaped hamming15_words
