use Rattle.std.proofs.Common.{rules}
use Rattle.dmr_listing.proofs.slot_view.SlotView.new.Goals as goal

pub returns : goal.returns
returns c = search rules
