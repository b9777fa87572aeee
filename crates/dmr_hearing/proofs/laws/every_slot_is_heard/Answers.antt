use Rattle.dmr_hearing.proofs.Existing.{hears_somehow}
use Rattle.dmr_hearing.proofs.laws.every_slot_is_heard.Goals as goal

pub returns : goal.returns
returns c = record { law = hears_somehow }
