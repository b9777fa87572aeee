use Rattle.std.proofs.Common.{rules}
use Rattle.dmr_listing.proofs.summary.BurstCounts.with.Goals as goal

pub returns : goal.returns
returns c = search rules
