use Rattle.dmr_codes.specs.Seven.{hamming13_columns, hamming13_shaped}
use Rattle.dmr_codes.proofs.AllWords.{hamming13_words}
use Rattle.dmr_codes.proofs.hamming.Hamming13BlockCode139.encode.Goals as goal

pub returns-clause-word : goal.returns-clause-word
returns-clause-word c = c.word_of.ensures.word hamming13_columns hamming13_shaped hamming13_words

pub returns-clause-information : goal.returns-clause-information
returns-clause-information c = c.word_of.ensures.information hamming13_columns hamming13_shaped hamming13_words
