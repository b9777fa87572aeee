-- The frames so far were taken, and the next record begins at this octet.
use Rattle.std.proofs.Common.{◌≡◌, ◌+◌, ◌*◌, ◌-◌, ◌≤◌, [], length, false}
use Rattle.dmr_recording.specs.Places.{octet_behind}
use Rattle.dmr_recording.specs.Recordings.{spelling}
use Rattle.dmr_recording.specs.declared.recording.Recording.TheVariants.{Uplink}
use Rattle.dmr_log.specs.RecordingLogs.{AreFramesTaken, RecordedFrames, slots_of_frames}
use Rattle.dmr_log.proofs.recording_log.take_frames.Given as goal

abbrev pub invariant-loop-slot : goal.invariant-loop-slot
invariant-loop-slot g l = record {
  source : g.S.Source.has_failed l.source ≡ false;
  lines : g.L.Taker.has_failed l.lines ≡ false;
  kept : g.L.Taker.kept l.lines ≡ g.L.Taker.kept l.initial.lines;
  few : l.at.slots ≤ 2097152;
  room : l.at.octet ≤ 8 + 37 * l.at.slots;
  taken : l.at.slots ≡ 2 * l.log.taken;
  so_far : (frames : RecordedFrames) × (length frames ≡ l.log.taken)
      × (l.at.octet ≡ octet_behind (spelling Uplink) (slots_of_frames frames))
      × AreFramesTaken g.L.Taker.Takes l.initial.log frames [] [] l.log (g.S.Source.left l.initial.source)
      (g.S.Source.left l.source)
      l.initial.lines l.lines;
}

abbrev pub decreases-loop-slot : goal.decreases-loop-slot
decreases-loop-slot g l = 2097152 - l.at.slots
