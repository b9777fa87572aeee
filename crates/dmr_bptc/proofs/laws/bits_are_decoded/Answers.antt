use Rattle.dmr_bptc.proofs.Existing.{decoded_somehow}
use Rattle.dmr_bptc.proofs.laws.bits_are_decoded.Goals as goal

pub returns : goal.returns
returns c = record { law = decoded_somehow }
