use Rattle.std.proofs.Common.{◌≡◌}
use Rattle.dmr_damage.proofs.rate.burst_at_rate.Given as goal

abbrev pub invariant-loop-i : goal.invariant-loop-i
invariant-loop-i l = record { same : l.errors ≡ 0 → l.damaged ≡ l.burst }
