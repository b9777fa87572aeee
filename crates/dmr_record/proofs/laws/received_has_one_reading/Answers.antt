use Rattle.dmr_record.specs.Head.{received_magic}
use Rattle.dmr_record.specs.Received.{IsReceipt, receipt_octets}
use Rattle.dmr_record.specs.Head.{head_octets}
use Rattle.dmr_record.proofs.Spellings.{one_file}
use Rattle.dmr_record.proofs.WrittenReading.{receipt_code}
use Rattle.dmr_record.proofs.laws.received_has_one_reading.Goals as goal

pub returns : goal.returns
returns c = record { one = one_file IsReceipt receipt_octets receipt_code (head_octets received_magic) }
