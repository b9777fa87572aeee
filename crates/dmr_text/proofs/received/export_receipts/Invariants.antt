-- The records so far have their lines, and the next one begins at this octet.
use Rattle.std.proofs.Common.{◌≡◌, ◌+◌, ◌*◌, ◌-◌, ◌≤◌, List, None, length, false}
use Rattle.dmr_recording.specs.Places.{octet_behind}
use Rattle.dmr_record.specs.Received.{last_fields}
use Rattle.dmr_record.specs.Received.{Receipt, last_read, receipt_octets, received_limit}
use Rattle.dmr_text.specs.Behind.{AreLinesWritten}
use Rattle.dmr_text.specs.Files.File.{Receipts}
use Rattle.dmr_text.proofs.received.export_receipts.Given as goal

abbrev pub invariant-loop-received : goal.invariant-loop-received
invariant-loop-received g l = record {
  source : g.S.Source.has_failed l.source ≡ false;
  sink : g.K.Sink.has_failed l.sink ≡ false;
  room : 65535 ≤ length l.room;
  few : l.count ≤ received_limit;
  far : l.octet ≤ 8 + 65547 * l.count;
  so_far : (receipts : List Receipt) × (length receipts ≡ l.count) × (last_fields None receipts ≡ last_read l.last)
      × (l.octet ≡ octet_behind receipt_octets receipts)
      × AreLinesWritten (Receipts receipts) (g.S.Source.left l.initial.source) (g.S.Source.left l.source)
      (g.K.Sink.held l.initial.sink) (g.K.Sink.held l.sink);
}

abbrev pub decreases-loop-received : goal.decreases-loop-received
decreases-loop-received g l = received_limit - l.count
