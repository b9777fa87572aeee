use Rattle.std.proofs.Common.{rules, arith, ◌++◌}
use Rattle.std.proofs.lemmas.List.{length-append}
use Rattle.std.proofs.KnownBytes.{Consumes-trans}
use Rattle.dmr_capture.proofs.transfer.skip.Goals as goal

pub returns-in-Err-clause-part : goal.returns-in-Err-clause-part
returns-in-Err-clause-part g c =
    let (passed, took, count) = c.loop-left.invariant.octets in
    let (more, fewer, next) = c.in-Err.ensures.part in
    (passed ++ more, omega (arith, length-append passed more, c.min-most.ensures), Consumes-trans _ _ _ passed more took next)

pub loop-left-preserved : goal.loop-left-preserved
loop-left-preserved g c =
    let (passed, took, count) = c.loop-left.invariant.octets in
    let (more, next, stands, whole) = c.in_default.ensures.octets in
    record {
      well = search rules;
      chunk = search rules;
      octets = (
        passed ++ more,
        Consumes-trans _ _ _ passed more took next,
        omega (arith, length-append passed more, c.min-most.ensures, whole, count),
      );
    }
