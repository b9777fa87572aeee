-- The bursts so far have their lines, and the next record begins at this octet.
use Rattle.std.proofs.Common.{◌≡◌, ◌+◌, ◌*◌, ◌-◌, ◌≤◌, List, length, false}
use Rattle.dmr_recording.specs.Places.{octet_behind}
use Rattle.dmr_recording.specs.Recordings.{RecordedSlot, slot_limit_of, spelling}
use Rattle.dmr_text.specs.Behind.{AreLinesWritten}
use Rattle.dmr_text.specs.Files.File.{Slots}
use Rattle.dmr_text.proofs.recording.export_slots.Given as goal

abbrev pub invariant-loop-slot : goal.invariant-loop-slot
invariant-loop-slot g l = record {
  source : g.S.Source.has_failed l.source ≡ false;
  sink : g.K.Sink.has_failed l.sink ≡ false;
  few : l.count ≤ slot_limit_of l.recording;
  room : l.octet ≤ 8 + 37 * l.count;
  so_far : (slots : List RecordedSlot) × (length slots ≡ l.count) × (l.octet ≡ octet_behind (spelling l.recording) slots)
      × AreLinesWritten (Slots l.recording slots) (g.S.Source.left l.initial.source) (g.S.Source.left l.source)
      (g.K.Sink.held l.initial.sink) (g.K.Sink.held l.sink);
}

abbrev pub decreases-loop-slot : goal.decreases-loop-slot
decreases-loop-slot g l = slot_limit_of l.recording - l.count
