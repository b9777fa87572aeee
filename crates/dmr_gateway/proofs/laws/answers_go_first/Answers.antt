use Rattle.dmr_gateway.proofs.AnswersFirst.{answers_go_first}
use Rattle.dmr_gateway.proofs.laws.answers_go_first.Goals as goal

pub returns : goal.returns
returns c = record { law = answers_go_first }
