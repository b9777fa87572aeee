use Rattle.dmr_data.proofs.Existing.{header_somehow}
use Rattle.dmr_data.proofs.laws.header_is_written.Goals as goal

pub returns : goal.returns
returns c = record { law = header_somehow }
