use Rattle.dmr_making_laws.proofs.Refused.{few_silences_are_no_pause}
use Rattle.dmr_making_laws.proofs.laws.few_silences_are_no_pause.Goals as goal

pub returns : goal.returns
returns c = record { law = few_silences_are_no_pause }
