use Rattle.dmr_words.proofs.Telling.{lines_ended, lines_last}
use Rattle.dmr_words.proofs.laws.lines_have_ends.Goals as goal

pub returns : goal.returns
returns c = record { fed = lines_ended; last = lines_last }
