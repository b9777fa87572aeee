use Rattle.std.proofs.Common.{◌≡◌, ℕ, ◌-◌, ◌/◌, ◌%◌, ◌^◌, ◌<◌, ◌==◌, sym, ◌∙◌, ap, arith, cond, eq-eqb}
use Rattle.std.proofs.lemmas.Bool.{ne_eqb}
use Rattle.std.specs.Prelude.{bit_xor}
use Rattle.dmr_bits.specs.Bits.{bits_of}
use Rattle.dmr_rs.specs.Field.{times_x}
use Rattle.dmr_rs.proofs.Field.{sum_over, times-octet, sum_over-next, sum_over-none}
use Rattle.dmr_rs.proofs.octet.product.Goals.{then-left-place-eq1, else-left-place-eq1}
use Rattle.dmr_rs.proofs.octet.product.Goals as goal

pub loop-place-init : goal.loop-place-init
loop-place-init c = times-octet c.args.left c.args.right (omega arith)

pub loop-place-preserved : goal.loop-place-preserved
loop-place-preserved c =
    let place : ℕ = c.loop-place.place in
    let left : ℕ = c.args.left in
    let right : ℕ = c.args.right in
    let some : 0 < place = omega arith in
    let term : c.if-left-place-eq1.term ≡ cond (left / 2 ^ (place - 1) % 2 == 1) right 0 =
    elim c.if-left-place-eq1.branch [
      | then-left-place-eq1 w ↦ w.term-is ∙ sym (ap (λ t. cond t right 0) (eq-eqb (left / 2 ^ (place - 1) % 2) 1
          w.if-left-place-eq1.true))
      | else-left-place-eq1 w ↦ w.term-is ∙ sym (ap (λ t. cond t right 0) (ne_eqb (left / 2 ^ (place - 1) % 2) 1
          w.if-left-place-eq1.false))
    ] in
    ap (λ s. sum_over (bits_of (place - 1) left) right (bit_xor s c.if-left-place-eq1.term)) c.next_power.ensures.value
    ∙ ap (λ t. sum_over (bits_of (place - 1) left) right (bit_xor (times_x c.loop-place.sum) t)) term
    ∙ sum_over-next place left right c.loop-place.sum some
    ∙ c.loop-place.invariant

pub returns : goal.returns
returns c = record {
  value = sum_over-none c.loop-place.place c.args.left c.args.right c.loop-place.sum (omega arith) ∙ c.loop-place.invariant;
}
