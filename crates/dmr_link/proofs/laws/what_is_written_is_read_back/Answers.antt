use Rattle.dmr_link.proofs.SealedForms.{read_back}
use Rattle.dmr_link.proofs.laws.what_is_written_is_read_back.Goals as goal

pub returns : goal.returns
returns c = record { law = read_back }
