use Rattle.dmr_csbk.proofs.Blocks.{same_message}
use Rattle.dmr_csbk.proofs.laws.one_written_form.Goals as goal

pub returns : goal.returns
returns c = record { law = same_message }
