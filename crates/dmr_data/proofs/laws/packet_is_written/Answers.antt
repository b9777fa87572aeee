use Rattle.dmr_data.proofs.Existing.{written_packet}
use Rattle.dmr_data.proofs.laws.packet_is_written.Goals as goal

pub returns : goal.returns
returns c = record { law = written_packet }
