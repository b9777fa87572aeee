use Rattle.std.proofs.Common.{false, get_or, sym, ◌∙◌, ap}
use Rattle.std.proofs.lemmas.List.{get_or-take}
use Rattle.dmr_embedded.proofs.embedding.row_word.Goals as goal

pub returns-clause-cells : goal.returns-clause-cells
returns-clause-cells c k h =
    sym (get_or-take 11 c.encode.result k false h)
    ∙ ap (λ l. get_or l k false) c.encode.ensures.information
    ∙ c.row_information.ensures.cells k h
