use Rattle.dmr_making_laws.proofs.Refused.{fronts_are_well_formed}
use Rattle.dmr_making_laws.proofs.laws.fronts_are_well_formed.Goals as goal

pub returns : goal.returns
returns c = record { law = fronts_are_well_formed }
