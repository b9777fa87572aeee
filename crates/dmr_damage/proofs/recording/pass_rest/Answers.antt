use Rattle.std.proofs.Common.{◌+◌, ◌++◌, replicate, subst, arith}
use Rattle.dmr_damage.specs.Passing.{IsPassedTorn, silence_in_both}
use Rattle.dmr_damage.proofs.Passed.{one_more_silent}
use Rattle.dmr_damage.proofs.recording.pass_rest.Goals as goal

pub returns-in-Err-clause-torn : goal.returns-in-Err-clause-torn
returns-in-Err-clause-torn g c damage frames outs held is =
    let (more, passed) = c.loop-past.invariant.so_far damage frames outs held is in (
      c.loop-past._past + 1,
      omega (arith, c.pass.ensures.rest, c.loop-past.invariant.rest, c.loop-past-test.true),
      subst (λ fs. IsPassedTorn damage c.pass.new.damager fs held (g.K.Sink.held c.pass.new.sink))
          (one_more_silent frames c.loop-past._past)
          (c.in-Err.ensures.torn damage (frames ++ replicate c.loop-past._past silence_in_both) more held passed),
    )
