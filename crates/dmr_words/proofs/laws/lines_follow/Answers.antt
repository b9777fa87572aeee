use Rattle.dmr_words.proofs.Telling.{tells_both}
use Rattle.dmr_words.proofs.laws.lines_follow.Goals as goal

pub returns : goal.returns
returns c = record { told = tells_both }
