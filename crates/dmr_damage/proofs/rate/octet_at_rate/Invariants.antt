use Rattle.std.proofs.Common.{◌≡◌}
use Rattle.dmr_damage.proofs.rate.octet_at_rate.Given as goal

abbrev pub invariant-loop-place : goal.invariant-loop-place
invariant-loop-place l = record { same : l.errors ≡ 0 → l.damaged ≡ l.octet }
