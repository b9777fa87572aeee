use Rattle.std.proofs.Common.{◌≡◌, ℕ, ◌≤◌, Bool, true, false, List, length, drop, get_or, ap, subst, sym, ◌∙◌, arith, rules}
use Rattle.std.proofs.Common.{add-zero, get_or-drop}
use Rattle.std.proofs.lemmas.Option.{get_or_from_slice_get}
use Rattle.dmr_script.specs.Shapes.{there_within}
use Rattle.dmr_script.specs.declared.letters.Letter.{Letter}
use Rattle.dmr_script.specs.declared.letters.Letter.TheVariants as letter
use Rattle.dmr_script.specs.declared.shape.Place.TheVariants.{A}
use Rattle.dmr_script.proofs.Lettering.{first_at}
use Rattle.dmr_script.proofs.call_shapes.late.Goals as goal

pub returns-clause-shape : goal.returns-clause-shape
returns-clause-shape c =
    let letters = c.args.letters.now in
    let before = c.in-Some.before in
    let places = c.in_ok-places.places.items in
    let at = get_or_from_slice_get letters before (letter.Place A) letter.Absent c.in-Some.ensures.there in
    let front : get_or c.split_at.result.1.now 0 letter.Absent ≡ letter.Place A =
    ap (λ (l : List Letter). get_or l 0 letter.Absent) c.split_at.ensures.back ∙ get_or-drop before letters 0 letter.Absent
    ∙ ap (λ (n : ℕ). get_or letters n letter.Absent) (add-zero before) ∙ at in
    let tail : length c.in_ok-tail.tail.items ≤ 5 = omega (
      arith,
      c.in_ok-tail.ensures.count,
      c.split_at.ensures.front_len,
      c.if-before-gt-BEFORE_VOICE.false,
    ) in
    let there : there_within 5 false (drop 1 places) ≡ true =
    subst (λ (l : List Bool). there_within 5 false (drop 1 l) ≡ true) c.as_slice.ensures.value
    (sym c.has_companion.ensures.value ∙ c.if-not-has_companion.false) in
    record {
      start = (tail, there);
      first = first_at places c.split_at.result.1.now c.voice_length.result
          (c.in_ok-places.ensures.letters ∙ c.split_at-2.ensures.front) front;
      unbroken = search rules;
      whole = search rules;
    }
