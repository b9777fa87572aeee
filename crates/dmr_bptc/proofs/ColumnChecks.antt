-- Columns whose checks are the sums of their rows are words.
use Rattle.std.proofs.Common.{◌≡◌, ℕ, Bool, true, false, List, [], ◌∷◌, length, drop}
use Rattle.std.proofs.Common.{refl, ◌∙◌, arith, cond, get_or}
use Rattle.std.proofs.lemmas.List.{length-drop, get_or-drop}

four : (t : List Bool) → length t ≡ 4 → t ≡ get_or t 0 false ∷ get_or t 1 false ∷ get_or t 2 false ∷ get_or t 3 false ∷ []
four [] e = absurd (omega arith)
four (a ∷ []) e = absurd (omega arith)
four (a ∷ b ∷ []) e = absurd (omega arith)
four (a ∷ b ∷ c ∷ []) e = absurd (omega arith)
four (a ∷ b ∷ c ∷ d ∷ []) e = refl
four (a ∷ b ∷ c ∷ d ∷ x ∷ t) e = absurd (omega arith)

lower : (w : List Bool) → length w ≡ 13
    → drop 9 w ≡ get_or w 9 false ∷ get_or w 10 false ∷ get_or w 11 false ∷ get_or w 12 false ∷ []
lower w e =
    let long : length (drop 9 w) ≡ 4 = length-drop 9 w ∙ omega (arith, e) in
    let a = get_or-drop 9 w 0 false in
    let b = get_or-drop 9 w 1 false in
    let c = get_or-drop 9 w 2 false in
    let d = get_or-drop 9 w 3 false in
    four (drop 9 w) long ∙ cc

none : (b : Bool) → ◌≡◌ {A = ℕ} (cond b 0 0) 0
none true = refl
none false = refl
