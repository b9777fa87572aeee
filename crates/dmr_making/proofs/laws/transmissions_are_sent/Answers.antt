use Rattle.dmr_making.proofs.SeenTries.{all_seen_as}
use Rattle.dmr_making.proofs.laws.transmissions_are_sent.Goals as goal

pub returns : goal.returns
returns c = record { law = all_seen_as }
