use Rattle.std.proofs.Common.{◌≡◌, ◌-◌, ◌*◌, ◌^◌, ◌<◌}
use Rattle.dmr_bits.specs.Bits.{bits_of}
use Rattle.dmr_bits.specs.Polynomials.{binary_field}
use Rattle.dmr_bits.specs.Register.{register_after}
use Rattle.dmr_checks.proofs.crc.crc8.Given as goal

abbrev pub invariant-loop-part : goal.invariant-loop-part
invariant-loop-part l = record {
  fits : l.register < 2 ^ 8;
  rest : register_after binary_field (bits_of 8 7) (bits_of 8 l.register) (bits_of (28 - 7 * l.part) l.number)
      ≡ register_after binary_field (bits_of 8 7) (bits_of 8 0) (bits_of 28 l.number);
}
