use Rattle.std.proofs.Common.{◌≤◌}
use Rattle.dmr_bits.specs.Bits.{distance}
use Rattle.dmr_damage.proofs.drawing.turned.Given as goal

abbrev pub invariant-loop-turn : goal.invariant-loop-turn
invariant-loop-turn g l = record { near : distance l.bits l.found ≤ l._turn }
