-- So many frames are written.
use Rattle.std.proofs.Common.{◌≡◌, ◌≤◌, length, max, false}
use Rattle.std.specs.Io.KnownBytes.{Appends}
use Rattle.dmr_record.specs.Uplink.{frames_octets}
use Rattle.dmr_dmrd.specs.Holding.{first_frames}
use Rattle.dmr_dmrd.proofs.recording.write_frames.Given as goal

abbrev pub invariant-loop-frame : goal.invariant-loop-frame
invariant-loop-frame g l = record {
  sink : g.K.Sink.has_failed l.sink ≡ false;
  end : l.frame-end ≡ max (length l.one) (length l.two);
  inside : l.frame ≤ l.frame-end;
  written : Appends (g.K.Sink.held l.fn.sink) (g.K.Sink.held l.sink) (frames_octets (first_frames l.one l.two l.frame));
}
