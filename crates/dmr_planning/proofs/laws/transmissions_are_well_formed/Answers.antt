use Rattle.dmr_planning.proofs.Forming.{said_well}
use Rattle.dmr_planning.proofs.laws.transmissions_are_well_formed.Goals as goal

pub returns : goal.returns
returns c = record { law = said_well }
