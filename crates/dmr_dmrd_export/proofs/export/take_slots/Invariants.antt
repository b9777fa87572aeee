-- The slots so far were read, what is decided by them is written, and the next record begins at this octet.
use Rattle.std.proofs.Common.{◌≡◌, ◌+◌, ◌*◌, ◌-◌, ◌≤◌, List, Option, [], length, false, count_by, is_some}
use Rattle.dmr_recording.specs.Places.{octet_behind}
use Rattle.dmr_recording.specs.Recordings.{RecordedSlot, spelling}
use Rattle.dmr_recording.specs.declared.recording.Recording.TheVariants.{Downlink}
use Rattle.dmr_dmrd_export.specs.BurstExports.{AreBurstsRead}
use Rattle.dmr_dmrd_export.specs.Deciding.{AreMoreWritten}
use Rattle.dmr_dmrd_export.specs.declared.burst.RepeatedBurst.{RepeatedBurst}
use Rattle.dmr_dmrd_export.specs.declared.packet.BurstPacket.{BurstPacket}
use Rattle.dmr_dmrd_export.proofs.export.take_slots.Given as goal

abbrev pub invariant-loop-slot : goal.invariant-loop-slot
invariant-loop-slot g l = record {
  source : g.S.Source.has_failed l.source ≡ false;
  sink : g.K.Sink.has_failed l.sink ≡ false;
  few : l.view.slots ≤ 2097164;
  room : l.state.streams.slots + length l.state.waiting ≡ l.view.slots;
  names : l.state.streams.names ≤ l.state.streams.slots;
  far : l.octet ≤ 8 + 37 * l.view.slots;
  some : l.records ≤ l.view.slots;
  sent : l.written ≤ l.view.slots;
  so_far : (slots : List RecordedSlot) × (bursts : List (Option RepeatedBurst)) × (packets : List BurstPacket)
      × (length slots ≡ l.view.slots) × (l.octet ≡ octet_behind (spelling Downlink) slots)
      × (l.records ≡ count_by is_some slots) × (l.written ≡ length packets)
      × AreBurstsRead slots [] bursts l.view (g.S.Source.left l.initial.source) (g.S.Source.left l.source)
      × AreMoreWritten l.settings l.initial.state bursts packets l.state
      (g.K.Sink.held l.initial.sink) (g.K.Sink.held l.sink);
}

abbrev pub decreases-loop-slot : goal.decreases-loop-slot
decreases-loop-slot g l = 2097164 - l.view.slots
