use Rattle.dmr_embedded.proofs.EveryLinkControl.{embedded_somehow}
use Rattle.dmr_embedded.proofs.laws.link_control_is_embedded.Goals as goal

pub returns : goal.returns
returns c = record { law = embedded_somehow }
