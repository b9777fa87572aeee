use Rattle.dmr_making_laws.proofs.Counts.{sent_length}
use Rattle.dmr_making_laws.proofs.laws.transmissions_have_their_slots.Goals as goal

pub returns : goal.returns
returns c = record { law = sent_length }
