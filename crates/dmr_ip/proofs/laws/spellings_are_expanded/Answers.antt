use Rattle.dmr_ip.proofs.Reading.{Spells-from_expand, expand-Spells}
use Rattle.dmr_ip.proofs.laws.spellings_are_expanded.Goals as goal

pub returns : goal.returns
returns c = record {
  law = λ octets source destination group datagram h.
      (Spells-from_expand octets source destination group datagram h, expand-Spells octets source destination group datagram);
}
