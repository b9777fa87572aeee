-- The records so far have their lines, and the next one begins at this octet.
use Rattle.std.proofs.Common.{◌≡◌, ◌+◌, ◌*◌, ◌-◌, ◌≤◌, List, length, false}
use Rattle.dmr_recording.specs.Places.{octet_behind}
use Rattle.dmr_record.specs.Head.{record_limit}
use Rattle.dmr_record.specs.Outgoing.{Sending, last_frame, sending_octets}
use Rattle.dmr_text.specs.Behind.{AreLinesWritten}
use Rattle.dmr_text.specs.Files.File.{Sendings}
use Rattle.dmr_text.proofs.outgoing.export_sendings.Given as goal

abbrev pub invariant-loop-record : goal.invariant-loop-record
invariant-loop-record g l = record {
  source : g.S.Source.has_failed l.source ≡ false;
  sink : g.K.Sink.has_failed l.sink ≡ false;
  room : 65535 ≤ length l.room;
  few : l.count ≤ record_limit;
  far : l.octet ≤ 8 + 65544 * l.count;
  so_far : (sendings : List Sending) × (length sendings ≡ l.count) × (last_frame 0 sendings ≡ l.last)
      × (l.octet ≡ octet_behind sending_octets sendings)
      × AreLinesWritten (Sendings sendings) (g.S.Source.left l.initial.source) (g.S.Source.left l.source)
      (g.K.Sink.held l.initial.sink) (g.K.Sink.held l.sink);
}

abbrev pub decreases-loop-record : goal.decreases-loop-record
decreases-loop-record g l = record_limit - l.count
