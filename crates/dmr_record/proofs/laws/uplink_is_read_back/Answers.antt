use Rattle.dmr_record.proofs.WrittenReading.{slot_code}
use Rattle.dmr_record.proofs.laws.uplink_is_read_back.Goals as goal

pub returns : goal.returns
returns c = record { back = slot_code }
