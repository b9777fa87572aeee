use Rattle.dmr_record.specs.Head.{outgoing_magic}
use Rattle.dmr_record.specs.Head.{head_octets}
use Rattle.dmr_record.specs.Outgoing.{IsSending, sending_octets}
use Rattle.dmr_record.proofs.OutgoingReading.{sending_code}
use Rattle.dmr_record.proofs.Spellings.{one_file}
use Rattle.dmr_record.proofs.laws.outgoing_has_one_reading.Goals as goal

pub returns : goal.returns
returns c = record { one = one_file IsSending sending_octets sending_code (head_octets outgoing_magic) }
