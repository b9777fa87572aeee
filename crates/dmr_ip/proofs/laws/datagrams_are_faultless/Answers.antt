use Rattle.dmr_ip.proofs.Faultless.{IsDatagram-from_none, none-from_IsDatagram}
use Rattle.dmr_ip.proofs.laws.datagrams_are_faultless.Goals as goal

pub returns : goal.returns
returns c = record { law = λ octets. (IsDatagram-from_none octets, none-from_IsDatagram octets) }
