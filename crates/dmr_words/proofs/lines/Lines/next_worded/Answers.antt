use Rattle.std.proofs.Common.{Bool, Result, Ok, Err, OnErr, sym, ◌∙◌, ap, subst, arith}
use Rattle.dmr_words.specs.Words.{is_worded}
use Rattle.dmr_words.specs.Lines.{TellsLines, lines_behind, worded_behind, told_now, untold}
use Rattle.dmr_words.proofs.Telling.{tells_none, tells_passed, tells_found, tells_no_more}
use Rattle.dmr_words.proofs.lines.Lines.next_worded.Goals as goal

at_any : {T E : Type 0} (r : Result T E) (P : Type 0) → P → OnErr r P
at_any (Ok x) P h = tt
at_any (Err x) P h = h

pub loop-self-init : goal.loop-self-init
loop-self-init g c = record {
  well = c.requires.well;
  over = c.requires.over;
  first = omega arith;
  told = tells_none worded_behind _ _;
}

pub loop-self-preserved : goal.loop-self-preserved
loop-self-preserved g c =
    let e = c.in_ok-next_line.ensures in
    let i = c.loop-self.invariant in
    let new = c.next_line.new.self in
    let x = g.S.Source.left c.args.source.now in
    let y = g.S.Source.left c.loop-self.source in
    let z = g.S.Source.left c.next_line.new.source in
    let told = subst (λ (b : Bool). TellsLines lines_behind c.loop-self.self new y z (told_now b new)) c.if-branch.true e.told in
    let not_worded = sym (c.is_worded.ensures.value ∙ ap is_worded c.line.ensures.value) ∙ c.if-is_worded.false in
    record {
      well = e.well;
      over = e.over;
      first = omega (arith, i.first, e.number c.if-branch.true);
      told = tells_passed c.args.self.now c.loop-self.self new x y z i.told told not_worded;
    }

pub loop-self-smaller : goal.loop-self-smaller
loop-self-smaller g c =
    let e = c.in_ok-next_line.ensures in
    let more = e.number c.if-branch.true in
    let last = e.numbers in
    omega (arith, more, last)

pub returns-in_err-next_line-clause-undone : goal.returns-in_err-next_line-clause-undone
returns-in_err-next_line-clause-undone g c =
    at_any _ _ (
    tells_no_more c.args.self.now c.loop-self.self (untold c.next_line.new.self) (g.S.Source.left c.args.source.now)
    (g.S.Source.left c.loop-self.source) (g.S.Source.left c.next_line.new.source) c.loop-self.invariant.told
    c.in_err-next_line.ensures.undone
    )

pub returns-then-is_worded-clause-told : goal.returns-then-is_worded-clause-told
returns-then-is_worded-clause-told g c =
    let new = c.next_line.new.self in
    let x = g.S.Source.left c.args.source.now in
    let y = g.S.Source.left c.loop-self.source in
    let z = g.S.Source.left c.next_line.new.source in
    let told = subst (λ (b : Bool). TellsLines lines_behind c.loop-self.self new y z (told_now b new)) c.if-branch.true
    c.in_ok-next_line.ensures.told in
    let worded = sym (c.is_worded.ensures.value ∙ ap is_worded c.line.ensures.value) ∙ c.if-is_worded.true in
    tells_found c.args.self.now c.loop-self.self new x y z c.loop-self.invariant.told told worded

pub returns-clause-told : goal.returns-clause-told
returns-clause-told g c =
    let new = c.next_line.new.self in
    let x = g.S.Source.left c.args.source.now in
    let y = g.S.Source.left c.loop-self.source in
    let z = g.S.Source.left c.next_line.new.source in
    let told = subst (λ (b : Bool). TellsLines lines_behind c.loop-self.self new y z (told_now b new)) c.if-branch.false
    c.in_ok-next_line.ensures.told in
    tells_no_more c.args.self.now c.loop-self.self new x y z c.loop-self.invariant.told told
