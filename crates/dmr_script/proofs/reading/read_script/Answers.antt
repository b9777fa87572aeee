use Rattle.std.proofs.Common.{◌≡◌, ◌<◌, ◌⊎◌, inl, inr, Bool, true, false, ℕ, List, length, ap}
use Rattle.std.proofs.Common.{subst, sym, ◌∙◌, arith}
use Rattle.std.proofs.lemmas.List.Elements.{All-push}
use Rattle.dmr_words.specs.Lines.{TellsLines, lines_behind, numbered_line, told_now, untold}
use Rattle.dmr_script.specs.Fits.{FitsNumbered}
use Rattle.dmr_script.specs.Order.{said_nothing, said_with}
use Rattle.dmr_script.specs.Quiet.{is_quiet}
use Rattle.dmr_script.specs.declared.order.Said.{Said}
use Rattle.dmr_script.specs.declared.statement.NumberedStatement.{NumberedStatement}
use Rattle.dmr_script.proofs.Saying.{begun, cut_shown, follows_more, read_no_line, read_quiet, read_words, said_more}
use Rattle.dmr_script.proofs.reading.read_script.Goals as goal

pub loop-is_told-init : goal.loop-is_told-init
loop-is_told-init g c =
    let none = c.new-statements.ensures.items in
    record {
      source = c.requires.well;
      over = rw c.new-lines.ensures.fresh (λ h. absurd (cc));
      number = rw c.new-lines.ensures.fresh (omega arith);
      fit = rw none (λ k d h. absurd (omega arith));
      follow = rw none tt;
      behind = rw none c.nothing-said.ensures.value;
      said = begun _ _ _ c.new-lines.ensures.fresh none;
    }

pub returns-in-Err-clause-read : goal.returns-in-Err-clause-read
returns-in-Err-clause-read g c =
    let i = c.loop-is_told.invariant in
    let e = c.in-Err.ensures in
    let new = c.next_line.new.self in
    inr (record {
      end = untold new;
      said = read_no_line _ c.loop-is_told.lines (untold new) _ _ _ _ i.said e.undone;
      number = c.next_number.ensures.value;
      shown = cut_shown c.in-Err.fault c.of_line.result _ (untold new) c.of_line.ensures.long c.of_line.ensures.many
          c.of_line.ensures.read e.failed e.long e.many e.cut;
    })

pub returns-then-not-is_told-clause-read : goal.returns-then-not-is_told-clause-read
returns-then-not-is_told-clause-read g c =
    let i = c.loop-is_told.invariant in
    let e = c.in-Ok.ensures in
    let new = c.next_line.new.self in
    let y = g.S.Source.left c.loop-is_told.source in
    let z = g.S.Source.left c.next_line.new.source in
    let none = c.if-not-is_told.true in
    record {
      end = new;
      said = read_no_line _ c.loop-is_told.lines new _ y z _ i.said
          (subst (λ (b : Bool). TellsLines lines_behind c.loop-is_told.lines new y z (told_now b new)) none e.told);
      done = e.end none;
      well = e.well;
    }

pub returns-in-Err-Refused-clause-read : goal.returns-in-Err-Refused-clause-read
returns-in-Err-Refused-clause-read g c =
    let i = c.loop-is_told.invariant in
    let e = c.in-Ok.ensures in
    let new = c.next_line.new.self in
    let y = g.S.Source.left c.loop-is_told.source in
    let z = g.S.Source.left c.next_line.new.source in
    inl (record {
      front = c.loop-is_told.lines;
      between = y;
      said = i.said;
      line = numbered_line new.number new.line;
      end = new;
      tells = subst (λ (b : Bool). TellsLines lines_behind c.loop-is_told.lines new y z (told_now b new)) c.if-not-is_told.false
          e.told;
      words = subst (λ (l : List ℕ). (is_quiet l ≡ false) ⊎ (65536 < length l)) c.line.ensures.value
          c.in-Err-Refused.ensures.refused;
      number = c.number-line.ensures.value;
      well = e.well;
    })

pub loop-is_told-preserved-in-Continue-1 : goal.loop-is_told-preserved-in-Continue-1
loop-is_told-preserved-in-Continue-1 g c =
    let i = c.loop-is_told.invariant in
    let e = c.in-Ok.ensures in
    let new = c.next_line.new.self in
    let y = g.S.Source.left c.loop-is_told.source in
    let z = g.S.Source.left c.next_line.new.source in
    let f = c.in-Ok-Some.ensures in
    let s : NumberedStatement = record { line = c.number-line.result; statement = c.in-Ok-Some.statement } in
    let items = c.loop-is_told.statements.items in
    let pushed = c.in_ok-push-in-Ok-Some.ensures.items in
    let fits = rw c.in-Ok-Some.field-0-is at f.fits in
    let may = rw c.in-Ok-Some.field-0-is at f.may in
    let value = rw c.in-Ok-Some.field-0-is at f.value in
    let words = rw c.in-Ok-Some.field-0-is at f.words in
    record {
      source = e.well;
      over = c.next_line.ensures.over;
      number = c.next_line.ensures.numbers;
      fit = rw pushed (All-push FitsNumbered items s i.fit fits);
      follow = rw pushed (follows_more said_nothing items s i.follow (rw (← i.behind) may));
      behind = rw pushed (value ∙ ap (λ (said : Said). said_with said s.statement) i.behind ∙ sym (said_more said_nothing items s));
      said = rw pushed (read_words _ c.loop-is_told.lines new _ y z items i.said (numbered_line new.number new.line) s
          (subst (λ (b : Bool). TellsLines lines_behind c.loop-is_told.lines new y z (told_now b new)) c.if-not-is_told.false
          e.told)
          (subst (λ (l : List ℕ). is_quiet l ≡ false) c.line.ensures.value words)
          c.number-line.ensures.value);
    }

pub loop-is_told-preserved : goal.loop-is_told-preserved
loop-is_told-preserved g c =
    let i = c.loop-is_told.invariant in
    let e = c.in-Ok.ensures in
    let new = c.next_line.new.self in
    let y = g.S.Source.left c.loop-is_told.source in
    let z = g.S.Source.left c.next_line.new.source in
    let same = rw c.in-Ok-None.field-0-is at c.in-Ok-None.ensures.same in
    let quiet = rw c.in-Ok-None.field-0-is at c.in-Ok-None.ensures.quiet in
    record {
      source = e.well;
      over = c.next_line.ensures.over;
      number = c.next_line.ensures.numbers;
      fit = i.fit;
      follow = i.follow;
      behind = same ∙ i.behind;
      said = read_quiet _ c.loop-is_told.lines new _ y z _ i.said (numbered_line new.number new.line)
          (subst (λ (b : Bool). TellsLines lines_behind c.loop-is_told.lines new y z (told_now b new)) c.if-not-is_told.false
          e.told)
          (subst (λ (l : List ℕ). is_quiet l ≡ true) c.line.ensures.value quiet);
    }
