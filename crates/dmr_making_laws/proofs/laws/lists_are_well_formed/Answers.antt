use Rattle.dmr_making_laws.proofs.Scripts.{lists_are_well_formed}
use Rattle.dmr_making_laws.proofs.laws.lists_are_well_formed.Goals as goal

pub returns : goal.returns
returns c = record { law = lists_are_well_formed }
