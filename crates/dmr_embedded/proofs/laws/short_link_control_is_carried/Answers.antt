use Rattle.dmr_embedded.proofs.EveryLinkControl.{short_lc_somehow}
use Rattle.dmr_embedded.proofs.laws.short_link_control_is_carried.Goals as goal

pub returns : goal.returns
returns c = record { law = short_lc_somehow }
