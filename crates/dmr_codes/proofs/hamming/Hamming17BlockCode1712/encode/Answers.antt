use Rattle.dmr_codes.specs.Seven.{hamming17_columns, hamming17_shaped}
use Rattle.dmr_codes.proofs.AllWords.{hamming17_upper, hamming17_lower}
use Rattle.dmr_codes.proofs.hamming.Hamming17BlockCode1712.encode.Goals as goal

pub returns-clause-word : goal.returns-clause-word
returns-clause-word c = c.sum_of_words.ensures.word hamming17_columns hamming17_shaped hamming17_upper hamming17_lower

pub returns-clause-information : goal.returns-clause-information
returns-clause-information c =
    c.sum_of_words.ensures.information hamming17_columns hamming17_shaped hamming17_upper hamming17_lower
