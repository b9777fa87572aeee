-- The records so far were listed, and the next one begins at this octet.
use Rattle.std.proofs.Common.{◌≡◌, ◌+◌, ◌*◌, ◌-◌, ◌≤◌, List, [], length, false}
use Rattle.dmr_record.specs.Outgoing.{Sending, sending_octets}
use Rattle.dmr_record.specs.Head.{record_limit}
use Rattle.dmr_recording.specs.Places.{octet_behind}
use Rattle.dmr_record.specs.Outgoing.{last_frame}
use Rattle.dmr_listing.specs.OutgoingListings.{AreSendingsListed}
use Rattle.dmr_listing.proofs.outgoing_listing.list_outgoing.Given as goal

abbrev pub invariant-loop-record : goal.invariant-loop-record
invariant-loop-record g l = record {
  source : g.S.Source.has_failed l.source ≡ false;
  lines : g.L.Taker.has_failed l.lines ≡ false;
  kept : g.L.Taker.kept l.lines ≡ g.L.Taker.kept l.initial.lines;
  few : l.count ≤ record_limit;
  room : l.octet ≤ 8 + 65544 * l.count;
  so_far : (sendings : List Sending) × (length sendings ≡ l.count) × (last_frame 0 sendings ≡ l.last)
      × (l.octet ≡ octet_behind sending_octets sendings)
      × AreSendingsListed g.L.Taker.Takes sendings [] (g.S.Source.left l.initial.source) (g.S.Source.left l.source)
      l.initial.lines l.lines;
}

abbrev pub decreases-loop-record : goal.decreases-loop-record
decreases-loop-record g l = record_limit - l.count
