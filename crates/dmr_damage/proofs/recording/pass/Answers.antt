use Rattle.std.proofs.Common.{◌∷◌, [], ◌++◌}
use Rattle.dmr_damage.proofs.Passed.{passed_waits, passed_decided, passed_torn}
use Rattle.dmr_damage.proofs.recording.pass.Goals as goal

pub returns-in-None-clause-passed : goal.returns-in-None-clause-passed
returns-in-None-clause-passed g c damage frames outs held is = (
  outs,
  passed_waits damage c.args.damager.now c.take.new.self c.args.counts.now frames outs c.args.frame.now held _ is
      (c.in-None.ensures.waits damage frames outs is.behind),
)

pub returns-in-Err-clause-torn : goal.returns-in-Err-clause-torn
returns-in-Err-clause-torn g c damage frames outs held is =
    passed_torn damage c.args.damager.now c.take.new.self c.args.counts.now frames outs c.args.frame.now c.in-Some.pair.is held _
    _ is
    (c.in-Some.ensures.decided damage frames outs is.behind).0 c.in-Err.ensures.torn

pub returns-in_default-clause-passed : goal.returns-in_default-clause-passed
returns-in_default-clause-passed g c damage frames outs held is =
    let decided = c.in-Some.ensures.decided damage frames outs is.behind in (
      outs ++ c.in-Some.pair.is ∷ [],
      passed_decided damage c.args.damager.now c.take.new.self c.args.counts.now c.count_frame.new.self frames outs c.args.frame.now
          c.in-Some.pair.was c.in-Some.pair.is held _ _ is decided.0 decided.1 c.in-Some.ensures.frame c.count_frame.ensures.value
          c.count_frame.ensures.frames c.in_default.ensures.frame,
    )
