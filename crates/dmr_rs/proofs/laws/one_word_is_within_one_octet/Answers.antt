use Rattle.dmr_rs.proofs.Near.{one_within}
use Rattle.dmr_rs.proofs.laws.one_word_is_within_one_octet.Goals as goal

pub returns : goal.returns
returns c = record { law = one_within }
