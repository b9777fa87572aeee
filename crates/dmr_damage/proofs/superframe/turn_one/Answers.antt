use Rattle.std.proofs.Common.{arith}
use Rattle.dmr_codes.proofs.Flips.{distance_same}
use Rattle.dmr_embedded.specs.EmbeddedWord.{row}
use Rattle.dmr_damage.proofs.superframe.turn_one.Goals as goal

pub returns-else-happens-clause-near : goal.returns-else-happens-clause-near
returns-else-happens-clause-near c = omega (arith, distance_same (row c.args.bits.now c.args.row_number))
