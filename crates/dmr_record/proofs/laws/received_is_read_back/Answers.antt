use Rattle.dmr_record.proofs.WrittenReading.{receipt_code}
use Rattle.dmr_record.proofs.laws.received_is_read_back.Goals as goal

pub returns : goal.returns
returns c = record { back = receipt_code }
