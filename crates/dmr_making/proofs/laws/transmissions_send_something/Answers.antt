use Rattle.dmr_making.proofs.Existing.{said_somehow}
use Rattle.dmr_making.proofs.laws.transmissions_send_something.Goals as goal

pub returns : goal.returns
returns c = record { law = said_somehow }
