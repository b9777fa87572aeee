use Rattle.std.proofs.Common.{◌≡◌, ◌≢◌, ◌⊎◌, ◌≤◌, ◌<◌, ℕ, List, length, drop, arith, inl, inr, subst, sym, ◌∙◌}
use Rattle.dmr_capture.specs.declared.order.Order.{Order}
use Rattle.dmr_capture.specs.Orders.{ordered_number}
use Rattle.dmr_capture.specs.Options.{Says, NoOption, LastOption, Resolution, OtherOption, BeginsWithOption, option_length}
use Rattle.dmr_capture.proofs.interface.resolution_said.Goals as goal

-- an option that isn't the last is passed over
passed : (order : Order) (options : List ℕ) (code len resolution : ℕ) → BeginsWithOption order options code len → code ≢ 0
    → ((code ≡ 9) × (len ≢ 1)) ⊎ (code ≢ 9) → option_length len ≤ length options
    → Says order (drop (option_length len) options) resolution → Says order options resolution
passed order options code len resolution begins more (inl other) there says =
    OtherOption options code len resolution begins more (inr other.1) there says
passed order options code len resolution begins more (inr other) there says =
    OtherOption options code len resolution begins more (inl other) there says

pub returns-then-code-eq0 : goal.returns-then-code-eq0
returns-then-code-eq0 c =
    let begins : BeginsWithOption c.args.order c.loop-rest.rest.now c.u16_at-code.result c.from-length.result =
    record {
      there = c.loop-rest-test.true;
      numbered = c.u16_at-code.ensures.number;
      long = c.from-length.ensures ∙ c.u16_at.ensures.number;
    } in
    let last : (c.u16_at-code.result ≡ 0) ⊎ (length c.loop-rest.rest.now < option_length c.from-length.result) =
    elim c.then-code-eq0.either [ inl none ↦ inl none | inr less ↦ inr less.1 ] in
    record { said = c.loop-rest.invariant.says 6 (LastOption _ _ _ begins last) }

pub returns-then-length-eq1 : goal.returns-then-length-eq1
returns-then-length-eq1 c =
    let nine : 9 ≡ ordered_number c.args.order 2 0 c.loop-rest.rest.now = sym c.if-code-eq-RESOLUTION.true
    ∙ c.u16_at-code.ensures.number in
    let one : 1 ≡ ordered_number c.args.order 2 2 c.loop-rest.rest.now =
    sym c.if-length-eq1.true ∙ c.from-length.ensures ∙ c.u16_at.ensures.number in
    let room : option_length 1 ≤ length c.loop-rest.rest.now =
    subst (λ n. option_length n ≤ length c.loop-rest.rest.now) c.if-length-eq1.true c.if-rest-whole.false in
    record {
      said = c.loop-rest.invariant.says _
          (Resolution _ (record { there = c.loop-rest-test.true; numbered = nine; long = one }) room);
    }

pub loop-rest-preserved : goal.loop-rest-preserved
loop-rest-preserved c =
    let begins : BeginsWithOption c.args.order c.loop-rest.rest.now c.u16_at-code.result c.from-length.result =
    record {
      there = c.loop-rest-test.true;
      numbered = c.u16_at-code.ensures.number;
      long = c.from-length.ensures ∙ c.u16_at.ensures.number;
    } in
    record {
      says = λ r says. c.loop-rest.invariant.says r
          (passed _ _ _ _ r begins c.if-code-eq0.false c.else-code-eq-RESOLUTION.either c.if-rest-whole.false
          (subst (λ l. Says c.args.order l r) c.behind-rest.ensures.rest says));
    }

pub returns : goal.returns
returns c = record { said = c.loop-rest.invariant.says 6 (NoOption _ (omega (arith, c.loop-rest-test.false))) }
