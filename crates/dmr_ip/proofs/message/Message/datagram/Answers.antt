use Rattle.dmr_ip.proofs.Built.{IsDatagram-built}
use Rattle.dmr_ip.proofs.message.Message.datagram.Goals as goal

pub of_octets-requires : goal.of_octets-requires
of_octets-requires c = record {
  datagram = rw c.octets_between.ensures.value (IsDatagram-built _ _ _ c.octets_between.ensures.fits);
}
