use Rattle.dmr_dmrd_export.proofs.EachPacket.{each_packet}
use Rattle.dmr_dmrd_export.proofs.laws.each_burst_is_a_packet.Goals as goal

pub returns : goal.returns
returns c = record { law = each_packet }
