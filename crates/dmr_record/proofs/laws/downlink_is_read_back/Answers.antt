use Rattle.dmr_record.proofs.WrittenReading.{sent_code}
use Rattle.dmr_record.proofs.laws.downlink_is_read_back.Goals as goal

pub returns : goal.returns
returns c = record { back = sent_code }
