use Rattle.dmr_ip.proofs.Writing.{one_written}
use Rattle.dmr_ip.proofs.laws.written_forms_are_one.Goals as goal

pub returns : goal.returns
returns c = record { law = one_written }
