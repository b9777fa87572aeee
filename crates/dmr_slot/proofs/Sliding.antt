-- A window of six places that slides over more of them.
use native.Mathlib.Omega.{arith}
use Rattle.std.proofs.Common.{◌≡◌, ◌∙◌, ℕ, ◌+◌, ◌<◌, ◌≤◌, List, [], ◌∷◌, ◌++◌, length, take, drop, slice_set, ap, sym}
use Rattle.std.proofs.Math.Seq.{paste}
use Rattle.std.proofs.lemmas.List.{drop-set-add, drop-take, take_more_set, take_at, drop-drop}
use Rattle.std.proofs.lemmas.List.{length-drop, length-append, length-take-le}

-- One place on, what is heard in it stands behind the five that stay.
pub slides : {X : Type 0} (places : List X) (from : ℕ) (heard : X) → from + 6 < length places
    → take 6 (drop (from + 1) (slice_set places (from + 6) heard)) ≡ drop 1 (take 6 (drop from places)) ++ heard ∷ []
slides places from heard inside =
    let same : from + 6 ≡ from + 1 + 5 = omega arith in
    let left : 5 < length (drop (from + 1) places) = rw (length-drop (from + 1) places) (omega arith) in
    ap (λ at. take 6 (drop (from + 1) (slice_set places at heard))) same
    ∙ ap (take 6) (drop-set-add (from + 1) places 5 heard)
    ∙ take_more_set (drop (from + 1) places) 5 heard left
    ∙ ap (λ stays. take 5 stays ++ heard ∷ []) (sym (drop-drop 1 from places))
    ∙ ap (λ stays. stays ++ heard ∷ []) (sym (drop-take 1 5 (drop from places)))

-- From the last place on, the five that stay have gone to the front.
pub slides_back : {X : Type 0} (places : List X) (from : ℕ) (heard : X) → from + 6 ≤ length places
    → take 6 (slice_set (paste places 0 (drop (from + 1) places) 5) 5 heard) ≡ drop 1 (take 6 (drop from places)) ++ heard ∷ []
slides_back {X = X} places from heard inside =
    let stays : List X = take 5 (drop (from + 1) places) in
    let five : length stays ≡ 5 = length-take-le 5 (drop (from + 1) places) (rw (length-drop (from + 1) places) (omega arith)) in
    let behind : 5 < length (stays ++ drop 5 places) =
    rw (length-append stays (drop 5 places)) (rw five (rw (length-drop 5 places) (omega arith))) in
    take_more_set (stays ++ drop 5 places) 5 heard behind
    ∙ ap (λ five. five ++ heard ∷ []) (take_at stays (drop 5 places) 5 five)
    ∙ ap (λ stays. take 5 stays ++ heard ∷ []) (sym (drop-drop 1 from places))
    ∙ ap (λ stays. stays ++ heard ∷ []) (sym (drop-take 1 5 (drop from places)))
