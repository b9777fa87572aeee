use Rattle.dmr_record.proofs.OutgoingReading.{sending_code}
use Rattle.dmr_record.proofs.laws.outgoing_is_read_back.Goals as goal

pub returns : goal.returns
returns c = record { back = sending_code }
