use Rattle.std.proofs.Common.{inr, subst}
use Rattle.dmr_text.specs.TextFaults.{HasNoSource}
use Rattle.dmr_text.proofs.import_received.record_said.Goals as goal

pub returns-in_default-clause-fault : goal.returns-in_default-clause-fault
returns-in_default-clause-fault c = inr (c.requires.record, subst HasNoSource c.new-words.ensures.value c.in_default.ensures.none)
