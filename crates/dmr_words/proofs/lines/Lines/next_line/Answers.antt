use Rattle.std.proofs.Common.{◌≡◌, ◌+◌, ◌<◌, true, length, sym, ◌∙◌, subst, refl, arith}
use Rattle.std.proofs.lemmas.Bool.{eqb-false}
use Rattle.dmr_words.specs.Lines.{TextState, TellsLines, lines_behind, told_now}
use Rattle.dmr_words.proofs.Telling.{tells_fed, tells_last}
use Rattle.dmr_words.proofs.lines.Lines.next_line.Goals as goal

pub returns-then-branch-clause-told : goal.returns-then-branch-clause-told
returns-then-branch-clause-told g c =
    let i = c.self.inside in
    let e = c.in_ok-gather.ensures in
    let old : TextState = record { pending = i.chunk; line = i.line.items; number = i.number; is_over = i.is_over } in
    let new : TextState =
    record {
      pending = c.gather.new.chunk;
      line = c.drop_carriage_return.new.line.items;
      number = i.number + 1;
      is_over = i.is_over;
    } in
    let number : new.number ≡ old.number + 1 = refl in
    subst (λ (s : TextState). TellsLines lines_behind s new (g.S.Source.left c.args.source.now) (g.S.Source.left
    c.gather.new.source) (told_now true new)) c.self.view_is (
    tells_fed old new _ _ c.if-self.false c.gather.new.line.items (e.ended c.if-branch.true) e.unended.one e.unended.short
    c.drop_carriage_return.ensures.line number
    )

pub returns-clause-told : goal.returns-clause-told
returns-clause-told g c =
    let i = c.self.inside in
    let e = c.in_ok-gather.ensures in
    let old : TextState = record { pending = i.chunk; line = i.line.items; number = i.number; is_over = i.is_over } in
    let new : TextState =
    record {
      pending = c.gather.new.chunk;
      line = c.gather.new.line.items;
      number = i.number + 1;
      is_over = true;
    } in
    let number : new.number ≡ old.number + 1 = refl in
    let empty : length c.gather.new.line.items ≡ 0 → ⊥ = eqb-false _ 0 (sym c.is_empty.ensures ∙ c.if-is_empty.false) in
    let some : 0 < length c.gather.new.line.items = omega (arith, empty) in
    subst (λ (s : TextState). TellsLines lines_behind s new (g.S.Source.left c.args.source.now) (g.S.Source.left
    c.gather.new.source) (told_now true new)) c.self.view_is (
    tells_last old new _ _ c.if-self.false (e.last c.if-branch.false) e.unended.one e.unended.short some (e.end c.if-branch.false).0
    refl number
    )
