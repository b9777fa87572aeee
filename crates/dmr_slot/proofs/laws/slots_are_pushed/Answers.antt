use Rattle.dmr_slot.proofs.Existing.{new_line}
use Rattle.dmr_slot.proofs.laws.slots_are_pushed.Goals as goal

pub returns : goal.returns
returns c = record { law = new_line }
