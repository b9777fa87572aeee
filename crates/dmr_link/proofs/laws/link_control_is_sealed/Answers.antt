use Rattle.dmr_link.proofs.Existing.{lc_somehow}
use Rattle.dmr_link.proofs.laws.link_control_is_sealed.Goals as goal

pub returns : goal.returns
returns c = record { law = lc_somehow }
