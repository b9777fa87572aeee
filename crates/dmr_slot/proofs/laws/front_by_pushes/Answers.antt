use Rattle.dmr_slot.proofs.Fronts.{front_of_any_line}
use Rattle.dmr_slot.proofs.laws.front_by_pushes.Goals as goal

pub returns : goal.returns
returns c = record { law = front_of_any_line }
