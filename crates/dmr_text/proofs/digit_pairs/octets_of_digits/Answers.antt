use Rattle.std.proofs.Common.{arith, inl, inr, max, subst, sym, ap, ◌∙◌}
use Rattle.std.proofs.lemmas.List.{length-set}
use Rattle.dmr_text.proofs.DigitPairs.{AreWithin, IsShown, more_pairs, more_shown, more_within, said, unsaid}
use Rattle.dmr_text.proofs.digit_pairs.octets_of_digits.Goals as goal

pub loop-place-preserved : goal.loop-place-preserved
loop-place-preserved g c =
    let word = c.args.word.now in
    let loop = c.loop-place in
    let before = loop.invariant in
    let upper = c.value_of-upper in
    let lower = c.value_of-lower in
    let first = upper.ensures.value in
    let second = lower.ensures.value in
    let inside = c.loop-place-test.true in
    let many = before.many in
    let next = c.max-greatest.ensures ∙ ap (λ m. max m lower.result) c.max.ensures in
    let within = more_within word loop.place loop.greatest upper.result lower.result first second before.within in
    let shown = more_shown word loop.place loop.greatest upper.result lower.result first second before.shown in
    record {
      many = length-set loop.octets loop.place _ ∙ many;
      pairs = more_pairs word loop.octets loop.place upper.result lower.result (omega (arith, inside, many)) first second
          before.pairs;
      within = subst (AreWithin word _) (sym next) within;
      shown = subst (IsShown word _) (sym next) shown;
    }

pub returns-then-greatest-lt-NO_DIGIT-clause-octets : goal.returns-then-greatest-lt-NO_DIGIT-clause-octets
returns-then-greatest-lt-NO_DIGIT-clause-octets g c =
    let loop = c.loop-place in
    let end = c.loop-place-test.false in
    said c.args.word.now loop.octets g.row.N loop.greatest (omega (arith, c.if-word-ne0.false, c.if-word.false)) loop.invariant.many
    (λ k h. loop.invariant.within k (omega (arith, h, end))) c.if-greatest-lt-NO_DIGIT.true
    (λ k h. loop.invariant.pairs k (omega (arith, h, end)))

pub returns-else-greatest-lt-NO_DIGIT-clause-none : goal.returns-else-greatest-lt-NO_DIGIT-clause-none
returns-else-greatest-lt-NO_DIGIT-clause-none g c octets e =
    let loop = c.loop-place in
    let large = c.if-greatest-lt-NO_DIGIT.false in
    elim loop.invariant.shown [
      | inl none ↦ absurd (omega (arith, none, large))
      | inr some ↦
          let inside = some.1 in
          let value = some.2 in
          unsaid c.args.word.now octets g.row.N some.0
          (omega (arith, inside, loop.auto.place-end, c.if-word-ne0.false, c.if-word.false)) (omega (arith, value, large)) e
    ]
