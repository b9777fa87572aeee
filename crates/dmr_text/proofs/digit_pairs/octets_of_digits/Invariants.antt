use Rattle.std.proofs.Common.{◌≡◌, ◌*◌, length}
use Rattle.dmr_text.proofs.DigitPairs.{ArePaired, AreWithin, IsShown}
use Rattle.dmr_text.proofs.digit_pairs.octets_of_digits.Given as goal

-- the octets of the pairs so far, and the greatest value of their digits
abbrev pub invariant-loop-place : goal.invariant-loop-place
invariant-loop-place g l = record {
  many : length l.octets ≡ g.row.N;
  pairs : ArePaired l.word l.octets l.place;
  within : AreWithin l.word (2 * l.place) l.greatest;
  shown : IsShown l.word (2 * l.place) l.greatest;
}
