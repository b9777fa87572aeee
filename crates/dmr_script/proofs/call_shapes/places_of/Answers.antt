use Rattle.std.proofs.Common.{sym, ◌∙◌, ap, arith, List, length}
use Rattle.std.proofs.lemmas.List.{length_push}
use Rattle.dmr_script.specs.Shapes.{next_place}
use Rattle.dmr_script.specs.declared.letters.Letter.{Letter}
use Rattle.dmr_script.proofs.Lettering.{behind_more, placed}
use Rattle.dmr_script.proofs.call_shapes.places_of.Goals as goal

pub loop-letter-preserved : goal.loop-letter-preserved
loop-letter-preserved c =
    let i = c.loop-letter.invariant in
    let old = c.loop-letter.places.items in
    let first = c.args.first in
    let b = c.in_ok-there.there in
    let r = c.in-Some.ensures.cases.0 in
    let pushed = c.in_ok-push.ensures.items in
    let more = length_push old b in
    let counted = ap (λ (l : List Letter). length l) r in
    record {
      letters = rw pushed (placed first old b c.loop-letter.wanted c.in-Some.letter.now c.in-Some.behind.now
          c.loop-letter.rest.now _ i.letters r i.wanted c.in_ok-there.ensures.letter);
      wanted = rw pushed (c.next-wanted.ensures.value ∙ ap next_place i.wanted ∙ sym (behind_more first old b));
      count = rw pushed (omega (arith, more, counted));
    }
