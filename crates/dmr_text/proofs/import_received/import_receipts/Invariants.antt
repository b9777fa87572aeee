-- The lines so far say the records so far, and these were written.
use Rattle.std.proofs.Common.{◌≡◌, ◌-◌, ◌≤◌, List, None, length, true, false}
use Rattle.std.specs.Io.KnownBytes.{IsAtEnd}
use Rattle.dmr_record.specs.Received.{Receipt, last_fields, last_read, received_limit}
use Rattle.dmr_text.specs.Files.File.{Receipts}
use Rattle.dmr_text.specs.Telling.{IsTaken}
use Rattle.dmr_text.proofs.import_received.import_receipts.Given as goal

abbrev pub invariant-loop-fault : goal.invariant-loop-fault
invariant-loop-fault g l = record {
  source : g.S.Source.has_failed l.source ≡ false;
  over : l.lines.is_over ≡ true → IsAtEnd (g.S.Source.left l.source);
  sink : g.K.Sink.has_failed l.sink ≡ false;
  room : length l.room ≡ 65535;
  few : l.count ≤ received_limit;
  so_far : (receipts : List Receipt) × (length receipts ≡ l.count) × (last_fields None receipts ≡ last_read l.last)
      × IsTaken (Receipts receipts) l.initial.lines l.lines (g.S.Source.left l.initial.source) (g.S.Source.left l.source)
      (g.K.Sink.held l.initial.sink) (g.K.Sink.held l.sink);
}

abbrev pub decreases-loop-fault : goal.decreases-loop-fault
decreases-loop-fault g l = received_limit - l.count
