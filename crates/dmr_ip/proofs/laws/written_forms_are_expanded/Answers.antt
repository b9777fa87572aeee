use Rattle.dmr_ip.proofs.Reading.{expand-Spells}
use Rattle.dmr_ip.proofs.Writing.{Spells-from_Writes}
use Rattle.dmr_ip.proofs.laws.written_forms_are_expanded.Goals as goal

pub returns : goal.returns
returns c = record {
  law = λ octets source destination group datagram h.
      expand-Spells octets source destination group datagram (Spells-from_Writes octets source destination group datagram h);
}
