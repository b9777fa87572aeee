-- Lines and records, place by place.
use Rattle.std.proofs.Common.{◌≡◌, ℕ, List, [], ◌∷◌, ◌++◌, refl, ap}
use Rattle.std.specs.List.{AllZip}
use Rattle.dmr_words.specs.Lines.{Line}
use Rattle.dmr_words.specs.Words.{line_words}
use Rattle.dmr_text.specs.Says.{words_of_lines}

-- two lists that are related place by place stay so with a related pair more at their ends
pub zip_push : {A B : Type 0} (R : A → B → Type 0) (xs : List A) (ys : List B) (x : A) (y : B) → AllZip R xs ys → R x y
    → AllZip R (xs ++ x ∷ []) (ys ++ y ∷ [])
zip_push R [] [] x y all last = (last, tt)
zip_push R [] (b ∷ ys) x y all last = absurd all
zip_push R (a ∷ xs) [] x y all last = absurd all
zip_push R (a ∷ xs) (b ∷ ys) x y (first, rest) last = (first, zip_push R xs ys x y rest last)

-- the words of a line more stand behind those of the others
pub words_more : (said : List Line) (line : Line) → words_of_lines
    (said ++ line ∷ []) ≡ words_of_lines said ++ line_words line.octets ∷ []
words_more [] line = refl
words_more (l ∷ said) line = ap (λ (w : List (List (List ℕ))). line_words l.octets ∷ w) (words_more said line)
