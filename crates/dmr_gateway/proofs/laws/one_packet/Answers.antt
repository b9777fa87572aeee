use Rattle.dmr_gateway.proofs.OneOfEach.{queued_alike}
use Rattle.dmr_gateway.proofs.laws.one_packet.Goals as goal

pub returns : goal.returns
returns c = record { law = queued_alike }
