-- Letters of shapes, one more at a time.
use Rattle.std.proofs.Common.{◌≡◌, ℕ, zero, suc, ◌-◌, ◌<◌, Bool, true, false, List, [], ◌∷◌, ◌++◌, refl, ap, sym, ◌∙◌}
use Rattle.std.proofs.Common.{get_or, map, replicate, take, arith, sub-one}
use Rattle.dmr_script.specs.Shapes.{begins_there, letter_at, next_place, place_past, place_letters, there_within}
use Rattle.dmr_script.specs.declared.letters.Letter.{Letter}
use Rattle.dmr_script.specs.declared.letters.Letter.TheVariants as letter
use Rattle.dmr_script.specs.declared.shape.Place.{Place}
use Rattle.dmr_script.specs.declared.shape.Place.TheVariants.{A, B}

-- a letter more of a run
pub run_more : (n : ℕ) (l : Letter) (ls : List Letter) → replicate n l ++ l ∷ ls ≡ replicate (suc n) l ++ ls
run_more zero l ls = refl
run_more (suc n) l ls = ap (λ m. l ∷ m) (run_more n l ls)

-- an element more of those that were read
pub mapped_more : {X : Type 0} (f : X → Letter) (xs : List X) (x : X) (ls : List Letter)
    → map f (xs ++ x ∷ []) ++ ls ≡ map f xs ++ f x ∷ ls
mapped_more f [] x ls = refl
mapped_more f (y ∷ xs) x ls = ap (λ m. f y ∷ m) (mapped_more f xs x ls)

-- a place more
pub placed_more : (p : Place) (bs : List Bool) (b : Bool) (ls : List Letter)
    → place_letters p (bs ++ b ∷ []) ++ ls ≡ place_letters p bs ++ letter_at (place_past p bs) b ∷ ls
placed_more p [] b ls = refl
placed_more p (x ∷ bs) b ls = ap (λ m. letter_at p x ∷ m) (placed_more (next_place p) bs b ls)

-- One more letter is one place more.
pub behind_more : (p : Place) (bs : List Bool) (b : Bool) → place_past p (bs ++ b ∷ []) ≡ next_place (place_past p bs)
behind_more p [] b = refl
behind_more p (x ∷ bs) b = behind_more (next_place p) bs b

-- an absent place is passed
pub within_less : (n : ℕ) (ended : Bool) (bs : List Bool) → 0 < n
    → there_within n ended (false ∷ bs) ≡ there_within (n - 1) ended bs
within_less zero ended bs h = absurd (omega arith)
within_less (suc n) ended bs h = rw sub-one refl

pub within_end : (n : ℕ) (ended : Bool) → 0 < n → there_within n ended [] ≡ ended
within_end zero ended h = absurd (omega arith)
within_end (suc n) ended h = refl

pub within_there : (n : ℕ) (ended : Bool) (bs : List Bool) → 0 < n → there_within n ended (true ∷ bs) ≡ true
within_there zero ended bs h = absurd (omega arith)
within_there (suc n) ended bs h = refl

-- where letters don't begin with an absent one, the first place is there
pub first_there : (p : Place) (bs : List Bool) (ls ends : List Letter) → place_letters p bs ++ ends ≡ ls
    → ((more : List Letter) → ls ≡ letter.Absent ∷ more → ⊥) → begins_there bs ≡ true
first_there p [] ls ends e other = refl
first_there p (true ∷ bs) ls ends e other = refl
first_there p (false ∷ bs) ls ends e other = absurd (other (place_letters (next_place p) bs ++ ends) (sym e))

-- a place more of those that were read
pub placed : (p : Place) (bs : List Bool) (b : Bool) (w : Place) (l : Letter) (behind rest all : List Letter)
    → place_letters p bs ++ rest ≡ all → rest ≡ l ∷ behind → w ≡ place_past p bs → letter_at w b ≡ l
    → place_letters p (bs ++ b ∷ []) ++ behind ≡ all
placed p bs b w l behind rest all e r k h =
    placed_more p bs b behind ∙ ap (λ (q : Place). place_letters p bs ++ letter_at q b ∷ behind) (sym k)
    ∙ ap (λ (m : Letter). place_letters p bs ++ m ∷ behind) h ∙ ap (λ (m : List Letter). place_letters p bs ++ m) (sym r) ∙ e

-- letters that begin with an A don't begin with an absent place
absent_front : (vs m : List Letter) (k : ℕ) → letter.Absent ∷ m ≡ take k vs → get_or vs 0 letter.Absent ≡ letter.Place A → ⊥
absent_front [] m zero e h = cc
absent_front [] m (suc k) e h = cc
absent_front (v ∷ vs) m zero e h = cc
absent_front (v ∷ vs) m (suc k) e h = cc

-- where an A stands in front of letters, the first place is there
pub first_at : (bs : List Bool) (vs : List Letter) (k : ℕ) → place_letters A bs ≡ take k vs
    → get_or vs 0 letter.Absent ≡ letter.Place A → begins_there bs ≡ true
first_at [] vs k e h = refl
first_at (true ∷ bs) vs k e h = refl
first_at (false ∷ bs) vs k e h = absurd (absent_front vs (place_letters B bs) k e h)
