-- The records so far are exported, and the next one begins at this octet.
use Rattle.std.proofs.Common.{◌≡◌, ◌+◌, ◌*◌, ◌-◌, ◌≤◌, List, None, length, false}
use Rattle.dmr_record.specs.Received.{Receipt, last_fields, last_read, received_file, received_limit}
use Rattle.dmr_datagrams.specs.Exports.{AreExported}
use Rattle.dmr_datagrams.specs.Packets.{exported}
use Rattle.dmr_datagrams.proofs.export.export_list.Given as goal

abbrev pub invariant-loop-received : goal.invariant-loop-received
invariant-loop-received g l = record {
  source : g.S.Source.has_failed l.source ≡ false;
  sink : g.K.Sink.has_failed l.sink ≡ false;
  room : 65535 ≤ length l.room;
  few : l.records ≤ received_limit;
  some : l.written ≤ l.records;
  far : l.octet ≤ 8 + 65547 * l.records;
  so_far : (receipts : List Receipt) × (length receipts ≡ l.records) × (last_fields None receipts ≡ last_read l.last)
      × (l.octet ≡ length (received_file receipts)) × (l.written ≡ length (exported l.settings receipts))
      × AreExported l.settings receipts (g.S.Source.left l.fn.source) (g.S.Source.left l.source)
      (g.K.Sink.held l.fn.sink) (g.K.Sink.held l.sink);
}

abbrev pub decreases-loop-received : goal.decreases-loop-received
decreases-loop-received g l = received_limit - l.records
