use Rattle.dmr_codes.specs.Seven.{hamming16_columns, hamming16_shaped}
use Rattle.dmr_codes.proofs.AllWords.{hamming16_upper, hamming16_lower}
use Rattle.dmr_codes.proofs.hamming.Hamming16BlockCode1611.encode.Goals as goal

pub returns-clause-word : goal.returns-clause-word
returns-clause-word c = c.sum_of_words.ensures.word hamming16_columns hamming16_shaped hamming16_upper hamming16_lower

pub returns-clause-information : goal.returns-clause-information
returns-clause-information c =
    c.sum_of_words.ensures.information hamming16_columns hamming16_shaped hamming16_upper hamming16_lower
