use Rattle.dmr_record.specs.Head.{downlink_magic}
use Rattle.dmr_record.specs.Downlink.{IsSent, sent_octets}
use Rattle.dmr_record.specs.Head.{head_octets}
use Rattle.dmr_record.proofs.Spellings.{one_file}
use Rattle.dmr_record.proofs.WrittenReading.{sent_code}
use Rattle.dmr_record.proofs.laws.downlink_has_one_reading.Goals as goal

pub returns : goal.returns
returns c = record { one = one_file IsSent sent_octets sent_code (head_octets downlink_magic) }
