use Rattle.dmr_capture.proofs.WrittenReading.{read_capture}
use Rattle.dmr_capture.proofs.laws.written_packets_are_read_back.Goals as goal

pub returns : goal.returns
returns c = record { back = read_capture }
