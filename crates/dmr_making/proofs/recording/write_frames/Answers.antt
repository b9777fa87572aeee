use Rattle.std.proofs.Common.{ℕ, ◌+◌, ◌≤◌, arith}
use Rattle.dmr_making.proofs.Frames.{at_error, writes_more}
use Rattle.dmr_making.specs.Playing.{TearsFrames}
use Rattle.dmr_making.proofs.recording.write_frames.Goals as goal

-- one burst more at most
few_more : {count more frame : ℕ} → count ≤ frame → more ≤ 1 → count + more ≤ frame + 1
few_more a b = omega (arith, a, b)

pub loop-frame-preserved : goal.loop-frame-preserved
loop-frame-preserved g c = record {
  well = c.in_ok-more.ensures.well;
  first = c.play_frame.ensures.first;
  second = c.play_frame.ensures.second;
  first_few = few_more c.loop-frame.invariant.first_few c.in_ok-more.ensures.few.0;
  second_few = few_more c.loop-frame.invariant.second_few c.in_ok-more.ensures.few.1;
  written = writes_more c.args.first.now c.loop-frame.first c.play_frame.new.first c.args.second.now c.loop-frame.second
      c.play_frame.new.second c.loop-frame.frame _ _ _ _ _ c.loop-frame.invariant.first c.loop-frame.invariant.second
      c.loop-frame.invariant.written c.in_ok-more.ensures.frame;
}

pub returns-in_err-more-clause-torn : goal.returns-in_err-more-clause-torn
returns-in_err-more-clause-torn g c =
    at_error c.from_residual.result
    (TearsFrames c.args.first.now c.args.second.now (g.K.Sink.held c.args.sink.now) (g.K.Sink.held c.play_frame.new.sink))
    (record {
      count = c.loop-frame.frame;
      counts = c.loop-frame.counts;
      first_now = c.loop-frame.first;
      first_next = c.play_frame.new.first;
      second_now = c.loop-frame.second;
      second_next = c.play_frame.new.second;
      middle = g.K.Sink.held c.loop-frame.sink;
      first_ready = c.loop-frame.invariant.first;
      second_ready = c.loop-frame.invariant.second;
      whole = c.loop-frame.invariant.written;
      part = c.in_err-more.ensures.torn;
    })
