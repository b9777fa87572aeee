use Rattle.dmr_repeater.proofs.FrontResult.{fronts_of_one_result}
use Rattle.dmr_repeater.proofs.laws.fronts_of_one_result.Goals as goal

pub returns : goal.returns
returns c = record { law = fronts_of_one_result }
