use Rattle.std.proofs.Common.{arith}
use Rattle.dmr_bits.proofs.OctetWords.{word_of_octets}
use Rattle.dmr_bits.proofs.word_octets.word_of.Goals as goal

pub returns : goal.returns
returns c = record {
  value =
      word_of_octets c.args.octets.now c.args.from c.from_be_bytes.result (omega arith) c.fits-octets c.from_be_bytes.ensures;
}
