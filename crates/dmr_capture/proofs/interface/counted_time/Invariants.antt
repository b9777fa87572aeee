-- The time was divided by the base as often as that.
use Rattle.std.proofs.Common.{◌≡◌, ◌*◌, ◌/◌, ◌^◌}
use Rattle.dmr_capture.proofs.interface.counted_time.Given as goal

abbrev pub invariant-loop-digit : goal.invariant-loop-digit
invariant-loop-digit l = record { divided : l.time ≡ l.count * 1000000000 / l.base ^ l._digit }
