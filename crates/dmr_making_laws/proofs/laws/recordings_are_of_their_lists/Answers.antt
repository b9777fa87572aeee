use Rattle.dmr_making_laws.proofs.Scripts.{recordings_are_of_their_lists}
use Rattle.dmr_making_laws.proofs.laws.recordings_are_of_their_lists.Goals as goal

pub returns : goal.returns
returns c = record { law = recordings_are_of_their_lists }
