use Rattle.std.proofs.Common.{arith}
use Rattle.dmr_bptc.specs.ProductWord.{column}
use Rattle.dmr_codes.proofs.Flips.{distance_same}
use Rattle.dmr_damage.proofs.product.turn_one.Goals as goal

pub returns-else-happens-clause-near : goal.returns-else-happens-clause-near
returns-else-happens-clause-near c = omega (arith, distance_same (column c.args.bits.now c.args.column_number))
