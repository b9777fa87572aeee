-- The records so far were listed, and the next one begins at this octet.
use Rattle.std.proofs.Common.{◌≡◌, ◌+◌, ◌*◌, ◌-◌, ◌≤◌, List, [], None, length, false}
use Rattle.dmr_record.specs.Received.{Receipt, last_read, received_limit, receipt_octets}
use Rattle.dmr_recording.specs.Places.{octet_behind}
use Rattle.dmr_listing.specs.ReceivedListings.{AreReceiptsListed}
use Rattle.dmr_record.specs.Received.{last_fields}
use Rattle.dmr_listing.proofs.received_listing.list_received.Given as goal

abbrev pub invariant-loop-received : goal.invariant-loop-received
invariant-loop-received g l = record {
  source : g.S.Source.has_failed l.source ≡ false;
  lines : g.L.Taker.has_failed l.lines ≡ false;
  kept : g.L.Taker.kept l.lines ≡ g.L.Taker.kept l.initial.lines;
  long : 65535 ≤ length l.room;
  few : l.count ≤ received_limit;
  room : l.octet ≤ 8 + 65547 * l.count;
  so_far : (receipts : List Receipt) × (length receipts ≡ l.count) × (last_fields None receipts ≡ last_read l.last)
      × (l.octet ≡ octet_behind receipt_octets receipts)
      × AreReceiptsListed g.L.Taker.Takes receipts [] (g.S.Source.left l.initial.source) (g.S.Source.left l.source)
      l.initial.lines l.lines;
}

abbrev pub decreases-loop-received : goal.decreases-loop-received
decreases-loop-received g l = received_limit - l.count
