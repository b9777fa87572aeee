use Rattle.dmr_gateway.proofs.Ordering.{in_either_order}
use Rattle.dmr_gateway.proofs.laws.slots_in_either_order.Goals as goal

pub returns : goal.returns
returns c = record { law = in_either_order }
