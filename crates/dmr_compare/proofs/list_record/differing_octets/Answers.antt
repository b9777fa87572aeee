use Rattle.std.proofs.Common.{rules, length, take, sym, ap, ◌∙◌, arith}
use Rattle.std.proofs.lemmas.List.{length_push}
use Rattle.std.proofs.lemmas.Slice.Zip.{zip_end, zip_turn}
use Rattle.std.specs.List.{count_by, zip}
use Rattle.dmr_compare.proofs.Octets.{counted_all, counted_different, counted_same, differ}
use Rattle.dmr_compare.proofs.list_record.differing_octets.Goals as goal

pub loop-one-preserved-then-one-other : goal.loop-one-preserved-then-one-other
loop-one-preserved-then-one-other c =
    let xs = c.args.first.now in
    let ys = c.args.second.now in
    let before = length c.loop-one.yielded in
    let (below, below', one, other) = zip_turn xs ys c.loop-one.yielded c.into_iter-one-iterator.result c.loop-one.one-iterator
    c.next.new.self c.next.result (search rules) (search rules) c.loop-one.yielded_by (c.in-Some.one, c.in-Some.other)
    (search rules) c.next.ensures.steps in
    let push = length_push c.loop-one.yielded (c.in-Some.one, c.in-Some.other) in
    record {
      counted = counted_different xs ys before c.in-Some.one.now c.in-Some.other.now c.loop-one.count below below' (one 0) (other 0)
          c.if-one-other.true c.loop-one.invariant.counted ∙ ap (λ n. count_by differ (take n (zip xs ys))) (sym push);
      few = omega (arith, push, c.loop-one.invariant.few);
    }

pub loop-one-preserved : goal.loop-one-preserved
loop-one-preserved c =
    let xs = c.args.first.now in
    let ys = c.args.second.now in
    let before = length c.loop-one.yielded in
    let (below, below', one, other) = zip_turn xs ys c.loop-one.yielded c.into_iter-one-iterator.result c.loop-one.one-iterator
    c.next.new.self c.next.result (search rules) (search rules) c.loop-one.yielded_by (c.in-Some.one, c.in-Some.other)
    (search rules) c.next.ensures.steps in
    let push = length_push c.loop-one.yielded (c.in-Some.one, c.in-Some.other) in
    record {
      counted = counted_same xs ys before c.in-Some.one.now c.in-Some.other.now c.loop-one.count below below' (one 0) (other 0)
          c.if-one-other.false c.loop-one.invariant.counted ∙ ap (λ n. count_by differ (take n (zip xs ys))) (sym push);
      few = omega (arith, push, c.loop-one.invariant.few);
    }

pub returns : goal.returns
returns c =
    let xs = c.args.first.now in
    let ys = c.args.second.now in
    let end = zip_end xs ys c.loop-one.yielded c.into_iter-one-iterator.result c.loop-one.one-iterator c.next.new.self c.next.result
    (search rules) (search rules) c.loop-one.yielded_by (search rules) c.next.ensures.steps in
    let counted = counted_all xs ys (length c.loop-one.yielded) c.loop-one.count end c.loop-one.invariant.counted in
    record { value = omega (arith, counted, c.abs_diff.ensures) }
