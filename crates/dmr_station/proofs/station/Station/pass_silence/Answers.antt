use Rattle.std.proofs.Common.{arith}
use Rattle.dmr_station.proofs.Resting.{passed_one_more}
use Rattle.dmr_station.proofs.station.Station.pass_silence.Goals as goal

pub loop-frame-preserved : goal.loop-frame-preserved
loop-frame-preserved c =
    let inv = c.loop-frame.invariant in
    let one = c.pass_silent_frame.ensures in
    record {
      rests = one.rests;
      frames = let now = inv.frames in let next = one.exchanged.frames in omega (arith, now, next);
      passed = passed_one_more c.loop-frame._frame _ _ _ one.rests inv.passed one.exchanged;
    }
