use Rattle.dmr_burst.proofs.Existing.{encoding_somehow}
use Rattle.dmr_burst.proofs.laws.burst_is_encoded.Goals as goal

pub returns : goal.returns
returns c = record { law = encoding_somehow }
