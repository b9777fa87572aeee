-- The own colour code of statements.
use Rattle.std.proofs.Common.{◌≡◌, ℕ, List, [], ◌∷◌, ◌++◌, refl}
use Rattle.dmr_planning.specs.Planning.{colour_behind, colour_behind_all}
use Rattle.dmr_script.specs.declared.statement.NumberedStatement.{NumberedStatement}

-- with a statement more
pub colour_more : (own : ℕ) (ss : List NumberedStatement) (s : NumberedStatement)
    → colour_behind_all own (ss ++ s ∷ []) ≡ colour_behind (colour_behind_all own ss) s.statement
colour_more own [] s = refl
colour_more own (t ∷ ss) s = colour_more (colour_behind own t.statement) ss s
