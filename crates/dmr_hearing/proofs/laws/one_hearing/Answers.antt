use Rattle.dmr_hearing.proofs.OneHearing.{one_hearing}
use Rattle.dmr_hearing.proofs.laws.one_hearing.Goals as goal

pub returns : goal.returns
returns c = record { law = one_hearing }
