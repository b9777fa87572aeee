use Rattle.dmr_link.proofs.SealedForms.{same_message}
use Rattle.dmr_link.proofs.laws.one_written_form.Goals as goal

pub returns : goal.returns
returns c = record { law = same_message }
