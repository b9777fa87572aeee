-- So many frames were written.
use Rattle.std.proofs.Common.{◌≡◌, ◌≤◌, false}
use Rattle.dmr_making.specs.Playing.{IsReady, WritesFrames}
use Rattle.dmr_making.proofs.recording.write_frames.Given as goal

abbrev pub invariant-loop-frame : goal.invariant-loop-frame
invariant-loop-frame g l = record {
  well : g.K.Sink.has_failed l.sink ≡ false;
  first : IsReady l.first l.frame;
  second : IsReady l.second l.frame;
  first_few : l.counts.first ≤ l.frame;
  second_few : l.counts.second ≤ l.frame;
  written : WritesFrames l.fn.first l.first l.fn.second l.second l.frame l.counts (g.K.Sink.held l.initial.sink)
      (g.K.Sink.held l.sink);
}
