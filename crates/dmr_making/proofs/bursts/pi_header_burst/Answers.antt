use Rattle.std.proofs.Common.{ap, sym, ◌∙◌}
use Rattle.dmr_bits.specs.Bits.{bits_of_octets}
use Rattle.dmr_making.proofs.SameBursts.{written_for}
use Rattle.dmr_making.proofs.bursts.pi_header_burst.Goals as goal

pub returns : goal.returns
returns c = record {
  burst = λ information p.
      c.word_burst.ensures.burst information
      (written_for (bits_of_octets p.octets) c.from_octets-sealed.result information
      (ap bits_of_octets (c.seal.ensures.only p.octets p.twelve p.small p.front p.sealed) ∙ sym c.from_octets-sealed.ensures.value)
      p.written);
}
