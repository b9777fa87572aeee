use Rattle.dmr_codes.specs.Seven.{golay20_columns, golay20_shaped}
use Rattle.dmr_codes.proofs.AllWords.{golay20_words}
use Rattle.dmr_codes.proofs.golay.Golay20BlockCode208.encode.Goals as goal

pub returns-clause-word : goal.returns-clause-word
returns-clause-word c = c.word_of.ensures.word golay20_columns golay20_shaped golay20_words

pub returns-clause-information : goal.returns-clause-information
returns-clause-information c = c.word_of.ensures.information golay20_columns golay20_shaped golay20_words
