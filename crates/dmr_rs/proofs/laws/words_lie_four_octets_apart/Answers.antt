use Rattle.dmr_rs.proofs.Near.{four_apart_or_equal}
use Rattle.dmr_rs.proofs.laws.words_lie_four_octets_apart.Goals as goal

pub returns : goal.returns
returns c = record { law = four_apart_or_equal }
