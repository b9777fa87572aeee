use Rattle.dmr_link.proofs.SealedForms.{same_lc}
use Rattle.dmr_link.proofs.laws.one_reading.Goals as goal

pub returns : goal.returns
returns c = record { law = same_lc }
