-- The packets so far are imported.
use Rattle.std.proofs.Common.{◌≡◌, ◌+◌, ◌-◌, ◌^◌, ◌≤◌, List, length, false}
use Rattle.dmr_capture.specs.State.{CapturedPacket, octet_limit}
use Rattle.dmr_record.specs.Head.{record_limit}
use Rattle.dmr_datagrams.specs.Imports.{AreImported}
use Rattle.dmr_datagrams.specs.Sendings.{imported, no_progress, progress_behind}
use Rattle.dmr_datagrams.proofs.Imported.{Tells}
use Rattle.dmr_datagrams.proofs.import.import_list.Given as goal

abbrev pub invariant-loop-packet : goal.invariant-loop-packet
invariant-loop-packet g l = record {
  source : g.S.Source.has_failed l.source ≡ false;
  sink : g.K.Sink.has_failed l.sink ≡ false;
  room : 262144 ≤ length l.room;
  few : l.progress.records ≤ record_limit;
  some : l.progress.records ≤ l.packets;
  far : l.packets ≤ l.capture.octet;
  so_far : (list : List CapturedPacket) × (l.packets ≡ length list) × (l.progress ≡ progress_behind l.settings no_progress list)
      × Tells l.progress (imported l.settings list)
      × AreImported l.settings l.capture list (g.S.Source.left l.fn.source) (g.S.Source.left l.source)
      (g.K.Sink.held l.fn.sink) (g.K.Sink.held l.sink);
}

abbrev pub decreases-loop-packet : goal.decreases-loop-packet
decreases-loop-packet g l = octet_limit + 2 ^ 33 - l.capture.octet
