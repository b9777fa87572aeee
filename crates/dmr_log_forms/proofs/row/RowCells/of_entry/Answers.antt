use Rattle.std.proofs.Common.{◌≡◌, ℕ, List, [], ◌∷◌, ◌∙◌, ap, subst, decimal, IfSome}
use Rattle.dmr_log_forms.proofs.Cells.{cells_shown}
use Rattle.dmr_log_forms.specs.Kinds.{kind_name}
use Rattle.dmr_log_forms.specs.Rows as spec
use Rattle.dmr_log_forms.proofs.row.RowCells.of_entry.Goals as goal

pub returns : goal.returns
returns c =
    let cells : List (List ℕ) =
    c.text_of.result.bytes ∷ c.text_of-2.result.bytes ∷ c.number.result.bytes ∷ c.number-2.result.bytes
    ∷ c.name.result.bytes ∷ c.number-3.result.bytes ∷ c.number-4.result.bytes ∷ c.flag.result.bytes
    ∷ c.number-5.result.bytes ∷ c.flag-2.result.bytes ∷ c.number-6.result.bytes ∷ c.number-7.result.bytes
    ∷ c.number-8.result.bytes ∷ c.number-9.result.bytes ∷ c.number-10.result.bytes ∷ c.number-11.result.bytes
    ∷ c.number-12.result.bytes ∷ c.end.result.bytes ∷ c.text_of-3.result.bytes ∷ [] in
    record {
      shows = subst (λ k. spec.Shows k cells) c.columns-columns.ensures.value (record {
        texts = record {
          start = c.text_of.result.bytes;
          seconds = c.text_of-2.result.bytes;
          kind = c.name.result.bytes;
          details = c.text_of-3.result.bytes;
        };
        kind = subst (λ k. IfSome (kind_name k) (λ name. c.name.result.bytes ≡ name)) c.in_table.ensures.value
            c.name.ensures.name;
        theirs = cells_shown c.columns-columns.result _ _ _ _ _ _ _ _ _ _ _ _ _ _ _ _ _ _ _
            c.number.ensures.value c.number-2.ensures.value
            (c.number-3.ensures.value ∙ ap (spec.number_cell decimal) c.source.ensures.value)
            (c.number-4.ensures.value ∙ ap (spec.number_cell decimal) c.destination.ensures.value)
            (c.flag.ensures.value ∙ ap spec.flag_cell c.is_to_group.ensures.value)
            c.number-5.ensures.value c.flag-2.ensures.value c.number-6.ensures.value c.number-7.ensures.value
            c.number-8.ensures.value c.number-9.ensures.value c.number-10.ensures.value
            (c.number-11.ensures.value ∙ ap (spec.number_cell decimal) c.wrong.ensures.value)
            (c.number-12.ensures.value ∙ ap (spec.number_cell decimal) c.covered.ensures.value)
            c.end.ensures.value;
      });
    }
