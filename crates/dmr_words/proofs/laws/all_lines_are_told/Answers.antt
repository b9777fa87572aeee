use Rattle.dmr_words.proofs.Telling.{tells_all}
use Rattle.dmr_words.proofs.laws.all_lines_are_told.Goals as goal

pub returns : goal.returns
returns c = record { all = tells_all }
