use Rattle.dmr_repeater.proofs.OneResult.{one_result, one_result_of_frames}
use Rattle.dmr_repeater.proofs.laws.one_result.Goals as goal

pub returns : goal.returns
returns c = record { meant = one_result; frames = one_result_of_frames }
