use Rattle.dmr_ip.proofs.Writing.{Writes-from_compress, compress-Writes}
use Rattle.dmr_ip.proofs.laws.written_forms_are_compressed.Goals as goal

pub returns : goal.returns
returns c = record {
  law = λ octets source destination group datagram h d.
      (Writes-from_compress octets source destination group datagram h d, compress-Writes octets source destination group datagram);
}
