use Rattle.std.proofs.Common.{◌≡◌, ℕ, List, [], ◌∷◌, ◌++◌, append_assoc, append-nil, ap, sym, ◌∙◌}
use Rattle.std.specs.List.{FoldsTo, concat}
use Rattle.dmr_tools.proofs.printing.text_of.Goals as goal

-- what some calls have written, of anything that grows by what it is given
grown : {W : Type 0} (octets : W → List ℕ) (parts : List (List ℕ)) (old new : W)
    → FoldsTo (λ w part v. octets v ≡ octets w ++ part) old parts new → octets new ≡ octets old ++ concat parts
grown octets [] old new calls = ap octets (sym calls) ∙ sym (append-nil (octets old))
grown octets (part ∷ parts) old new calls =
    grown octets parts calls.0 new calls.2 ∙ ap (λ l. l ++ concat parts) calls.1 ∙ append_assoc (octets old) part (concat parts)

pub returns-in-Ok : goal.returns-in-Ok
returns-in-Ok c =
    let w = c.in-Ok.ensures.writes in
    record {
      text = grown (λ t. t.bytes) w.parts c.new-text.result c.write.new.self w.calls
          ∙ ap (λ l. l ++ concat w.parts) c.new-text.ensures ∙ w.whole;
    }
