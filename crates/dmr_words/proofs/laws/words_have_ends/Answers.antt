use Rattle.dmr_words.proofs.Parts.{words_blank, word_ended, word_last}
use Rattle.dmr_words.proofs.laws.words_have_ends.Goals as goal

pub returns : goal.returns
returns c = record { first = word_ended; last = word_last; blank = words_blank }
