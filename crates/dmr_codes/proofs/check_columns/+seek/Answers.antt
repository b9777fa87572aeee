use Rattle.std.proofs.Common.{◌≡◌, ℕ, ◌+◌, ◌-◌, ◌/◌, ◌%◌, ◌^◌, ◌<◌, ◌≤◌, List, Bool, length, length-set, get_or, not, false, take}
use Rattle.std.proofs.Common.{ap, arith, ◌∙◌}
use Rattle.std.proofs.lemmas.List.{take_all}
use Rattle.std.proofs.lemmas.Nat.Bits.{bit_at-zero}
use Rattle.dmr_bits.specs.Bits.{distance}
use Rattle.dmr_codes.specs.Seek.{IsFar, turned}
use Rattle.dmr_codes.proofs.Flips.{distance_same, not_far, far_more, turned_near, tied_turned}
use Rattle.dmr_codes.proofs.check_columns.+seek.Goals as goal

pub returns-then-checks-eq0-clause-within : goal.returns-then-checks-eq0-clause-within
returns-then-checks-eq0-clause-within g t c = (
  c.requires.length,
  (λ j. omega (
    arith,
    c.requires.tied j,
    bit_at-zero j,
    ap {B = ℕ} (λ (n : ℕ). n / 2 ^ j % 2) c.if-checks-eq0.true,
  )),
  omega (arith, distance_same c.args.bits.now),
)

pub returns-then-wrong-eq0-clause-beyond : goal.returns-then-wrong-eq0-clause-beyond
returns-then-wrong-eq0-clause-beyond g t c = λ w long even agree.
    let some = not_far c.args.columns.now c.args.bits.now c.args.checks c.requires.tied c.if-checks-eq0.false w long even in
    omega arith

pub returns-in-Some-clause-within : goal.returns-in-Some-clause-within
returns-in-Some-clause-within g t c =
    let it = c.in-Some.ensures.within in
    let near : distance c.in-Some.word (turned c.args.bits.now c.loop-i.i) ≤ c.args.wrong - 1 =
    rw c.turn-next.ensures.bits at it.2 in
    (it.0, it.1, omega (arith, near, turned_near c.in-Some.word c.args.bits.now c.loop-i.i, c.if-wrong-eq0.false))

pub loop-i-preserved : goal.loop-i-preserved
loop-i-preserved g t c =
    let far : IsFar c.args.columns.now (turned c.args.bits.now c.loop-i.i) (c.loop-i.i + 1) (c.args.wrong - 1) =
    rw c.turn-next.ensures.bits at c.in_default.ensures.beyond in
    far_more c.args.columns.now c.args.bits.now c.loop-i.i c.args.from c.args.wrong c.loop-i.auto.i
    (omega (arith, c.requires.length, c.loop-i-test.true))
    far (omega (arith, c.if-wrong-eq0.false)) c.loop-i.invariant

pub returns-clause-beyond : goal.returns-clause-beyond
returns-clause-beyond g t c = λ w long even agree.
    let some = not_far c.args.columns.now c.args.bits.now c.args.checks c.requires.tied c.if-checks-eq0.false w long even in
    let whole : take c.loop-i.i w ≡ w = take_all c.loop-i.i w (omega (arith, long, c.requires.length, c.loop-i-test.false)) in
    let all : take c.loop-i.i c.args.bits.now ≡ c.args.bits.now =
    take_all c.loop-i.i c.args.bits.now (omega (arith, c.requires.length, c.loop-i-test.false)) in
    c.loop-i.invariant w long even agree (rw (whole, all) some)

pub loop-i-preserved-then-not-reaches : goal.loop-i-preserved-then-not-reaches
loop-i-preserved-then-not-reaches g t c =
    let cs : List ℕ = c.args.columns.now in
    let bits : List Bool = c.args.bits.now in
    let i : ℕ = c.loop-i.i in
    let inside : i < length bits = omega (arith, c.requires.length, c.loop-i-test.true) in
    let place : i < length cs = omega (arith, c.told-columns, c.loop-i-test.true) in
    let kept : length (turned bits i) ≡ g.row.N = length-set bits i (not (get_or bits i false)) ∙ c.requires.length in
    let far : IsFar cs (turned bits i) (i + 1) (c.args.wrong - 1) =
    c.reaches.ensures.far c.if-not-reaches.true (turned bits i) kept
    (λ j. tied_turned j c.args.checks i cs bits place inside (c.requires.tied j)) in
    far_more cs bits i c.args.from c.args.wrong c.loop-i.auto.i inside far (omega (arith, c.if-wrong-eq0.false)) c.loop-i.invariant
