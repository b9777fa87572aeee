use Rattle.std.proofs.Common.{length, max, ◌≤◌, ◌+◌, arith}
use Rattle.dmr_dmrd.proofs.Frames.{frame_torn, frame_written}
use Rattle.dmr_dmrd.proofs.recording.write_frames.Goals as goal

pub returns-in-Err-clause-torn : goal.returns-in-Err-clause-torn
returns-in-Err-clause-torn g c =
    let one = c.args.one.now in
    let two = c.args.two.now in
    let inside : c.loop-frame.frame + 1 ≤ max (length one) (length two) =
    omega (arith, c.loop-frame-test.true, c.loop-frame.invariant.end) in
    frame_torn one two c.loop-frame.frame (max (length one) (length two)) _ _ _ inside c.loop-frame.invariant.written
    (rw (c.slot_in.ensures.value, c.slot_in-in-loop-frame.ensures.value) at c.in-Err.ensures.torn)

pub loop-frame-preserved : goal.loop-frame-preserved
loop-frame-preserved g c = record {
  sink = c.in_default.ensures.well;
  end = c.loop-frame.invariant.end;
  inside = omega (arith, c.loop-frame-test.true);
  written = frame_written c.args.one.now c.args.two.now c.loop-frame.frame _ _ _ c.loop-frame.invariant.written
      (rw (c.slot_in.ensures.value, c.slot_in-in-loop-frame.ensures.value) at c.in_default.ensures.frame);
}
