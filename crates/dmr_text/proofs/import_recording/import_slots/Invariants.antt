-- The lines so far say the slots so far, and these were written.
use Rattle.std.proofs.Common.{◌≡◌, ◌-◌, ◌≤◌, List, length, true, false}
use Rattle.std.specs.Io.KnownBytes.{IsAtEnd}
use Rattle.dmr_recording.specs.Recordings.{RecordedSlot, slot_limit_of}
use Rattle.dmr_text.specs.Files.File.{Slots}
use Rattle.dmr_text.specs.Telling.{IsTaken}
use Rattle.dmr_text.proofs.import_recording.import_slots.Given as goal

abbrev pub invariant-loop-fault : goal.invariant-loop-fault
invariant-loop-fault g l = record {
  source : g.S.Source.has_failed l.source ≡ false;
  over : l.lines.is_over ≡ true → IsAtEnd (g.S.Source.left l.source);
  sink : g.K.Sink.has_failed l.sink ≡ false;
  few : l.count ≤ slot_limit_of l.recording;
  so_far : (slots : List RecordedSlot) × (length slots ≡ l.count)
      × IsTaken (Slots l.recording slots) l.initial.lines l.lines (g.S.Source.left l.initial.source) (g.S.Source.left l.source)
      (g.K.Sink.held l.initial.sink) (g.K.Sink.held l.sink);
}

abbrev pub decreases-loop-fault : goal.decreases-loop-fault
decreases-loop-fault g l = slot_limit_of l.recording - l.count
