-- The records so far were written.
use Rattle.std.proofs.Common.{◌≡◌, take, false}
use Rattle.std.specs.Io.KnownBytes.{Appends}
use Rattle.dmr_planning.specs.Sending.{planned_sendings}
use Rattle.dmr_record.specs.Outgoing.{sendings_octets}
use Rattle.dmr_planning.proofs.sends.write_records.Given as goal

abbrev pub invariant-loop-planned : goal.invariant-loop-planned
invariant-loop-planned g l = record {
  well : g.K.Sink.has_failed l.sink ≡ false;
  written : Appends (g.K.Sink.held l.initial.sink) (g.K.Sink.held l.sink)
      (sendings_octets (planned_sendings l.statements (take l.planned-index l.sends)));
}
