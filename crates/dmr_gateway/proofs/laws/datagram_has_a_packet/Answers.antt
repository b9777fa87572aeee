use Rattle.dmr_gateway.proofs.Existing.{datagram_is_sent}
use Rattle.dmr_gateway.proofs.laws.datagram_has_a_packet.Goals as goal

pub returns : goal.returns
returns c = record { law = datagram_is_sent }
