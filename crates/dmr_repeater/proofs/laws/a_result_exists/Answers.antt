use Rattle.dmr_repeater.proofs.Existing.{what_is_meant_has_a_result, frames_have_a_result}
use Rattle.dmr_repeater.proofs.laws.a_result_exists.Goals as goal

pub returns : goal.returns
returns c = record { meant = what_is_meant_has_a_result; frames = frames_have_a_result }
