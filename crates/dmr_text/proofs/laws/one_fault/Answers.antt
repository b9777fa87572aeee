use Rattle.dmr_text.proofs.OneFault.{break_one, line_one}
use Rattle.dmr_text.proofs.laws.one_fault.Goals as goal

pub returns : goal.returns
returns c = record { line = line_one; breaks = break_one }
