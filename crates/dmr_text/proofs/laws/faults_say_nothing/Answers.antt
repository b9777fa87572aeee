use Rattle.dmr_text.proofs.Apart.{is_no_last, says_no_record}
use Rattle.dmr_text.proofs.laws.faults_say_nothing.Goals as goal

pub returns : goal.returns
returns c = record { next = says_no_record; last = is_no_last }
