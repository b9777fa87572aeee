use Rattle.std.proofs.Common.{◌≡◌, ℕ, ◌+◌, ◌++◌, [], ◌∷◌, List, take, get_or, sym, ap, ◌∙◌}
use Rattle.std.proofs.lemmas.List.{take_more}
use Rattle.dmr_planning.proofs.Colours.{colour_more}
use Rattle.dmr_planning.specs.Planning.{colour_behind, own_colour}
use Rattle.dmr_script.specs.declared.statement.NumberedStatement.{NumberedStatement}
use Rattle.dmr_planning.proofs.planner.own_colour.Goals as goal

pub loop-numbered-preserved : goal.loop-numbered-preserved
loop-numbered-preserved c =
    let all : List NumberedStatement = c.args.statements.now in
    let i : ℕ = c.loop-numbered.numbered-index in
    let s : NumberedStatement = c.numbered-item.result in
    let more : take (i + 1) all ≡ take i all ++ get_or all i s ∷ [] = take_more all i s c.loop-numbered-test.true in
    record {
      value =
          c.colour_behind-own.ensures.value
          ∙ ap (λ (own : ℕ). colour_behind own s.statement) c.loop-numbered.invariant.value
          ∙ ap (λ (x : NumberedStatement). colour_behind (own_colour (take i all)) x.statement) c.numbered-item.is
          ∙ sym (colour_more 1 (take i all) (get_or all i s)) ∙ ap (λ (l : List NumberedStatement). own_colour l) (sym more);
      fit = c.colour_behind-own.ensures.fit;
    }
