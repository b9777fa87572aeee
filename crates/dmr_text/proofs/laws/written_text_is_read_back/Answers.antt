use Rattle.dmr_text.proofs.Written.{imported_back, is_short, says_itself}
use Rattle.dmr_text.proofs.laws.written_text_is_read_back.Goals as goal

pub returns : goal.returns
returns c = record { says = says_itself; short = is_short; import = imported_back }
