-- The source hasn't failed.
use Rattle.std.proofs.Common.{◌≡◌, false}
use Rattle.dmr_capture_tests.proofs.capture_tests.put_packets.Given as goal

abbrev pub invariant-loop : goal.invariant-loop
invariant-loop g l = record { source : g.S.Source.has_failed l.source ≡ false }
