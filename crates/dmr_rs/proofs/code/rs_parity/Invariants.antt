use Rattle.std.proofs.Common.{◌≡◌, [], ◌∷◌, drop}
use Rattle.dmr_bits.specs.Register.{register_after}
use Rattle.dmr_rs.specs.Field.{octet_field}
use Rattle.dmr_rs.specs.Word.{generator_low}
use Rattle.dmr_rs.proofs.code.rs_parity.Given as goal

abbrev pub invariant-loop-octet : goal.invariant-loop-octet
invariant-loop-octet l =
    register_after octet_field generator_low l.register (drop l.octet-index l.octets)
    ≡ register_after octet_field generator_low (0 ∷ 0 ∷ 0 ∷ []) l.octets
