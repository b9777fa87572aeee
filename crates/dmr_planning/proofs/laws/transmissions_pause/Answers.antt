use Rattle.dmr_planning.proofs.Pausing.{pauses}
use Rattle.dmr_planning.proofs.laws.transmissions_pause.Goals as goal

pub returns : goal.returns
returns c = record { law = pauses }
