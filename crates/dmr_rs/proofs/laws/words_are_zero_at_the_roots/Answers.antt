use Rattle.dmr_rs.proofs.Roots.{roots}
use Rattle.dmr_rs.proofs.laws.words_are_zero_at_the_roots.Goals as goal

pub returns : goal.returns
returns c = record { law = roots }
