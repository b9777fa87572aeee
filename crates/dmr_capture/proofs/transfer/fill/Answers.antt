use Rattle.std.proofs.Common.{arith, rules}
use Rattle.std.proofs.KnownBytes.{Consumes-kept}
use Rattle.dmr_capture.proofs.Filled.{filled_more, filled_none}
use Rattle.dmr_capture.proofs.transfer.fill.Goals as goal

pub loop-done-init : goal.loop-done-init
loop-done-init g c = record {
  within = search rules;
  room = search rules;
  well = search rules;
  octets = filled_none _ c.args.from c.args.buffer.now;
}

pub loop-done-preserved : goal.loop-done-preserved
loop-done-preserved g c = record {
  within = search rules;
  room = search rules;
  well = search rules;
  octets = filled_more _ _ _ _ _ _ _ _ _ _ (omega arith) c.in-Ok.ensures.count c.loop-done.invariant.octets
      c.in-Ok.ensures.octets.0;
}

pub returns-in-Err-clause-part : goal.returns-in-Err-clause-part
returns-in-Err-clause-part g c =
    let (more, took, stands, count) = c.loop-done.invariant.octets in
    (more, omega (arith, count), Consumes-kept _ _ _ _ took c.in-Err.ensures.octets)
