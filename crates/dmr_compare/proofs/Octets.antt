-- Octets that differ are counted, place by place.
use Rattle.std.proofs.Common.{◌≡◌, ℕ, ◌+◌, ◌<◌, ◌==◌, Bool, not, List, length, take, get_or, min, sym, ap, ◌∙◌}
use Rattle.std.proofs.Common.{arith}
use Rattle.std.proofs.lemmas.Bool.{eq-eqb, ne_eqb}
use Rattle.std.proofs.lemmas.List.{take_all}
use Rattle.std.proofs.lemmas.List.Sums.{count_by_more_no, count_by_more_yes}
use Rattle.std.proofs.lemmas.Slice.Zip.{get_or-zip, length-zip}
use Rattle.std.specs.List.{count_by, zip}

-- whether two octets differ
abbrev pub differ : ℕ × ℕ → Bool
differ octets = not (octets.0 == octets.1)

-- the octets of a place, of which there is one in both
at_place : (xs ys : List ℕ) (i m n : ℕ) → i < length xs → i < length ys → m ≡ get_or xs i 0 → n ≡ get_or ys i 0
    → differ (get_or (zip xs ys) i (0, 0)) ≡ not (m == n)
at_place xs ys i m n below below' e e' =
    ap differ (get_or-zip xs ys i (0, 0) below below') ∙ ap (λ k. not (k == get_or ys i 0)) (sym e)
    ∙ ap (λ k. not (m == k)) (sym e')

-- there are as many pairs as both have
within : (xs ys : List ℕ) (i : ℕ) → i < length xs → i < length ys → i < length (zip xs ys)
within xs ys i below below' = let long = length-zip xs ys in omega (arith, long)

-- one more is counted where the octets of a place differ
pub counted_different : (xs ys : List ℕ) (i m n count : ℕ) → i < length xs → i < length ys → m ≡ get_or xs i 0 → n ≡ get_or ys i 0
    → (m ≡ n → ⊥) → count ≡ count_by differ (take i (zip xs ys)) → count + 1 ≡ count_by differ (take (i + 1) (zip xs ys))
counted_different xs ys i m n count below below' e e' apart so_far =
    let yes = at_place xs ys i m n below below' e e' ∙ ap not (ne_eqb m n apart) in
    let more = count_by_more_yes differ (zip xs ys) i (0, 0) (within xs ys i below below') yes in
    omega (arith, more, so_far)

-- and none where they are the same
pub counted_same : (xs ys : List ℕ) (i m n count : ℕ) → i < length xs → i < length ys → m ≡ get_or xs i 0 → n ≡ get_or ys i 0
    → m ≡ n → count ≡ count_by differ (take i (zip xs ys)) → count ≡ count_by differ (take (i + 1) (zip xs ys))
counted_same xs ys i m n count below below' e e' alike so_far =
    let no = at_place xs ys i m n below below' e e' ∙ ap not (eq-eqb m n alike) in
    let more = count_by_more_no differ (zip xs ys) i (0, 0) (within xs ys i below below') no in
    omega (arith, more, so_far)

-- all places were counted
pub counted_all : (xs ys : List ℕ) (i count : ℕ) → i ≡ min (length xs) (length ys) → count ≡ count_by differ (take i (zip xs ys))
    → count ≡ count_by differ (zip xs ys)
counted_all xs ys i count e so_far =
    let long = length-zip xs ys in
    so_far ∙ ap (count_by differ) (take_all i (zip xs ys) (omega (arith, long, e)))
