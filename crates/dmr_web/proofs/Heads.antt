-- What is written in front of a line, piece by piece, where the layouts of its columns are known.
use Rattle.std.proofs.Common.{◌≡◌, ℕ, List, [], ◌++◌, ap, ◌∙◌}

-- a number in its layout, between others
pub one_laid_out : {S : Type 0} (written : S → List ℕ) (layout is : S) (before now : List ℕ) → layout ≡ is → before ≡ []
    → now ≡ before ++ written layout → now ≡ written is
one_laid_out written layout is before now same none put = put ∙ ap (λ b. b ++ written layout) none ∙ ap written same

-- two of them, and a text that is known
pub two_laid_out : {S T : Type 0} (written : S → T → List ℕ → List ℕ) (first is : S) (second other : T) (text known : List ℕ)
    (before now : List ℕ) → first ≡ is → second ≡ other → text ≡ known → before ≡ []
    → now ≡ before ++ written first second text → now ≡ written is other known
two_laid_out written first is second other text known before now one two same none put =
    put ∙ ap (λ b. b ++ written first second text) none ∙ ap (λ s. written s second text) one
    ∙ ap (λ s. written is s text) two ∙ ap (λ t. written is other t) same
