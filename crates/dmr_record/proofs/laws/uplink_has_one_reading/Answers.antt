use Rattle.dmr_record.specs.Uplink.{IsFrame, frame_octets}
use Rattle.dmr_record.specs.Head.{head_octets}
use Rattle.dmr_record.specs.Head.{uplink_magic}
use Rattle.dmr_record.proofs.Spellings.{one_file}
use Rattle.dmr_record.proofs.UplinkReading.{frame_code}
use Rattle.dmr_record.proofs.laws.uplink_has_one_reading.Goals as goal

pub returns : goal.returns
returns c = record { one = one_file IsFrame frame_octets frame_code (head_octets uplink_magic) }
