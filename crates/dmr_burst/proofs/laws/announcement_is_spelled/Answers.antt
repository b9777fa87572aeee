use Rattle.dmr_burst.proofs.Existing.{cach_somehow}
use Rattle.dmr_burst.proofs.laws.announcement_is_spelled.Goals as goal

pub returns : goal.returns
returns c = record { law = cach_somehow }
