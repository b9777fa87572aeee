use Rattle.std.proofs.Common.{rules}
use Rattle.dmr_listing.proofs.wrong.data_sync.Goals as goal

pub returns : goal.returns
returns c = search rules
