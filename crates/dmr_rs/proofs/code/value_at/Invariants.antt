use Rattle.std.proofs.Common.{◌≡◌, drop, fold}
use Rattle.std.specs.Prelude.{bit_xor}
use Rattle.dmr_rs.specs.Field.{times}
use Rattle.dmr_rs.proofs.code.value_at.Given as goal

abbrev pub invariant-loop-octet : goal.invariant-loop-octet
invariant-loop-octet l =
    fold (λ sum octet. bit_xor (times l.x sum) octet) l.sum (drop l.octet-index l.octets)
    ≡ fold (λ sum octet. bit_xor (times l.x sum) octet) 0 l.octets
