use Rattle.std.proofs.Common.{◌≡◌, ℕ, ◌+◌, ◌-◌, ◌<◌, List, length, length-set, get_or, take, not, false, arith}
use Rattle.std.proofs.Common.{◌∙◌}
use Rattle.std.proofs.lemmas.List.{take_all}
use Rattle.dmr_codes.specs.Seek.{IsFar, turned}
use Rattle.dmr_codes.proofs.Flips.{not_far, far_more, tied_turned}
use Rattle.dmr_codes.proofs.check_columns.+reaches.Goals as goal
use Rattle.dmr_codes.proofs.check_columns.+reaches.Goals.{else-wrong-gt1-via-then-wrong-gt1+else-reaches}
use Rattle.dmr_codes.proofs.check_columns.+reaches.Goals.{else-wrong-gt1-via-else-wrong-gt1}

pub returns-then-wrong-eq0 : goal.returns-then-wrong-eq0
returns-then-wrong-eq0 g t c = record {
  far = λ e bits many tied w long even agree.
      let some = not_far c.args.columns.now bits c.args.checks tied c.if-checks-eq0.false w long even in
      omega arith;
}

pub loop-i-preserved : goal.loop-i-preserved
loop-i-preserved g t c = λ bits many tied.
    let cs : List ℕ = c.args.columns.now in
    let i : ℕ = c.loop-i.i in
    let inside : i < length bits = omega (arith, many, c.loop-i-test.true) in
    let place : i < length cs = omega (arith, c.told-columns, c.loop-i-test.true) in
    let next : (j : ℕ) → _ = λ j. tied_turned j c.args.checks i cs bits place inside (tied j) in
    let kept : length (turned bits i) ≡ g.row.N = length-set bits i (not (get_or bits i false)) ∙ many in
    let far : IsFar cs (turned bits i) (i + 1) (c.args.wrong - 1) =
    elim c.else-wrong-gt1.branch [
      | else-wrong-gt1-via-then-wrong-gt1+else-reaches w ↦ w.reaches.ensures.far w.if-reaches.false (turned bits i) kept next
      | else-wrong-gt1-via-else-wrong-gt1 w ↦
          (λ v long even agree.
          let some = not_far cs (turned bits i) _ next c.if-left-eq0.false v long even in
          omega (arith, some, w.if-wrong-gt1.false, c.if-wrong-eq0.false))
    ] in
    far_more cs bits i c.args.from c.args.wrong c.loop-i.auto.i inside far (omega (arith, c.if-wrong-eq0.false))
    (c.loop-i.invariant bits many tied)

pub returns : goal.returns
returns g t c = record {
  far = λ e bits many tied w long even agree.
      let some = not_far c.args.columns.now bits c.args.checks tied c.if-checks-eq0.false w long even in
      let whole : take c.loop-i.i w ≡ w = take_all c.loop-i.i w (omega (arith, long, many, c.loop-i-test.false)) in
      let all : take c.loop-i.i bits ≡ bits = take_all c.loop-i.i bits (omega (arith, many, c.loop-i-test.false)) in
      c.loop-i.invariant bits many tied w long even agree (rw (whole, all) some);
}
