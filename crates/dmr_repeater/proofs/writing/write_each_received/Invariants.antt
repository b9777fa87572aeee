-- What is taken so far is written.
use Rattle.std.proofs.Common.{◌≡◌, false, length}
use Rattle.dmr_station.specs.StationRules.{received_of}
use Rattle.dmr_repeater.proofs.Received.{Written}
use Rattle.dmr_repeater.proofs.writing.write_each_received.Given as goal

abbrev pub invariant-loop-received : goal.invariant-loop-received
invariant-loop-received g l = record {
  well : g.R.Sink.has_failed l.received ≡ false;
  written : Written l.number l.fn.station l.station (g.R.Sink.held l.initial.received) (g.R.Sink.held l.received);
}

abbrev pub decreases-loop-received : goal.decreases-loop-received
decreases-loop-received g l = length (received_of l.station.memory.gate)
