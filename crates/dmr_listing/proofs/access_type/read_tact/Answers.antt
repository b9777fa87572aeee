use Rattle.std.proofs.Common.{rules}
use Rattle.dmr_listing.proofs.access_type.read_tact.Goals as goal

pub returns-clause-read : goal.returns-clause-read
returns-clause-read c = search rules
