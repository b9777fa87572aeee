use Rattle.dmr_making_laws.proofs.Scripts.{plans_have_lists}
use Rattle.dmr_making_laws.proofs.laws.plans_have_lists.Goals as goal

pub returns : goal.returns
returns c = record { law = plans_have_lists }
