-- Rows that are put one behind another.
use Rattle.std.proofs.Common.{◌≡◌, ℕ, ◌+◌, ◌<◌, List, [], ◌∷◌, ◌++◌, Option, length, take, get_or, refl, subst, ap, ◌∙◌}
use Rattle.std.proofs.lemmas.List.{map-append, take_more}
use Rattle.dmr_log_forms.specs.declared.columns.EntryColumns.{EntryColumns}
use Rattle.dmr_log_page.specs.Minutes.{entries_of}
use Rattle.dmr_log_page.specs.Rows.{PutsRow, PutsRows}
use Rattle.dmr_log_page.specs.declared.row.TableRow.{TableRow}

-- one row more
pub rows_more : (cs : List EntryColumns) (c : EntryColumns) (a b d : Option (List ℕ)) → PutsRows cs a b → PutsRow c b d
    → PutsRows (cs ++ c ∷ []) a d
rows_more [] c a b d same row = (d, subst (λ o. PutsRow c o d) same row, refl)
rows_more (x ∷ xs) c a b d (between, one, rest) row = (between, one, rows_more xs c between b d rest row)

-- the entries of one row more
pub entries_of_more : (rows : List TableRow) (i : ℕ) (d : TableRow) → i < length rows
    → entries_of (take (i + 1) rows) ≡ entries_of (take i rows) ++ (get_or rows i d).columns ∷ []
entries_of_more rows i d lt =
    ap entries_of (take_more rows i d lt) ∙ map-append (λ (row : TableRow). row.columns) (take i rows) (get_or rows i d ∷ [])
