use Rattle.dmr_arq.proofs.Destinations.{numbers}
use Rattle.dmr_arq.proofs.laws.sequence_numbers.Goals as goal

pub returns : goal.returns
returns c = record { law = numbers }
