use Rattle.std.proofs.Common.{sym}
use Rattle.dmr_ip.proofs.Faultless.{IsDatagram-from_none}
use Rattle.dmr_ip.proofs.compression.compress_octets.Goals as goal

pub form_of-requires-clause-datagram : goal.form_of-requires-clause-datagram
form_of-requires-clause-datagram c = IsDatagram-from_none c.args.octets.now (sym c.in-None.ensures.value)
