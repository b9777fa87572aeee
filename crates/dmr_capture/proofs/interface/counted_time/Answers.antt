use Rattle.std.proofs.Common.{◌≡◌, ℕ, ◌+◌, ◌*◌, ◌/◌, ◌^◌, ap, sym, ◌∙◌, add-one}
use Rattle.std.proofs.Math.Nat.{div-div-eq-div-mul, pow-suc}
use Rattle.dmr_capture.proofs.interface.counted_time.Goals as goal

-- one division more
divided_more : (x base k : ℕ) → x / base ^ k / base ≡ x / base ^ (k + 1)
divided_more x base k =
    div-div-eq-div-mul x (base ^ k) base ∙ ap (λ p. x / p) (sym (pow-suc base k)) ∙ ap (λ j. x / base ^ j) (sym (add-one k))

pub loop-digit-preserved : goal.loop-digit-preserved
loop-digit-preserved c = record {
  divided =
      ap (λ t. t / c.base_of-base.result) c.loop-digit.invariant.divided
      ∙ divided_more (c.args.count * 1000000000) c.base_of-base.result c.loop-digit._digit;
}
