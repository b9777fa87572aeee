-- The octets so far spell the words so far.
use Rattle.std.proofs.Common.{◌≡◌, ◌*◌, ◌<◌, take, length}
use Rattle.std.specs.List.{All}
use Rattle.dmr_bits.specs.Bits.{bits_of_octets}
use Rattle.dmr_bits.specs.Words.{bits_of_words}
use Rattle.dmr_bits.proofs.word_octets.octets_of.Given as goal

abbrev pub invariant-loop-k : goal.invariant-loop-k
invariant-loop-k l = record {
  long : length l.octets ≡ 40;
  small : All (λ octet. octet < 256) l.octets;
  spelled : bits_of_octets (take (8 * l.k) l.octets) ≡ bits_of_words (take l.k l.words);
}
