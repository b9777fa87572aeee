use Rattle.dmr_ip.specs.Contents.{address, radio_address}
use Rattle.dmr_ip.proofs.Built.{IsDatagram-built}
use Rattle.dmr_ip.proofs.laws.built_datagrams_are_datagrams.Goals as goal

pub returns : goal.returns
returns c = record {
  law = λ source destination group contents fits. IsDatagram-built (radio_address source) (address group destination) contents fits;
}
