use Rattle.std.proofs.Common.{◌≡◌, fold, length}
use Rattle.dmr_ip.specs.Checksum.{words, plus}
use Rattle.dmr_dmrd_export.proofs.checksum.add_words.Given as goal

-- the sum so far and the words of what is left are those of all octets
abbrev pub invariant-loop-rest : goal.invariant-loop-rest
invariant-loop-rest l = fold plus l.sum (words l.rest) ≡ fold plus l.start (words l.octets)

abbrev pub decreases-loop-rest : goal.decreases-loop-rest
decreases-loop-rest l = length l.rest
