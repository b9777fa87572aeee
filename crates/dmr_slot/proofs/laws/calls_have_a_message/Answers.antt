use Rattle.dmr_slot.proofs.Existing.{message_somehow}
use Rattle.dmr_slot.proofs.laws.calls_have_a_message.Goals as goal

pub returns : goal.returns
returns c = record { law = message_somehow }
