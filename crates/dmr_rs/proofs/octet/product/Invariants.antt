use Rattle.std.proofs.Common.{◌≡◌}
use Rattle.dmr_bits.specs.Bits.{bits_of}
use Rattle.dmr_rs.specs.Field.{times}
use Rattle.dmr_rs.proofs.Field.{sum_over}
use Rattle.dmr_rs.proofs.octet.product.Given as goal

abbrev pub invariant-loop-place : goal.invariant-loop-place
invariant-loop-place l = sum_over (bits_of l.place l.left) l.right l.sum ≡ times l.left l.right
