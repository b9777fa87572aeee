use Rattle.std.proofs.Common.{◌≡◌, ◌∙◌, ◌≤◌, List, length, All, ap, subst, sym, arith}
use Rattle.std.proofs.lemmas.List.Sorted.{All-permutation}
use Rattle.dmr_making.specs.Playing.{IsFitPlaced, IsOrdered}
use Rattle.dmr_planning.proofs.ByLine.{AreByLine, are_by_line, sorted_by_line}
use Rattle.dmr_planning.proofs.Planned.{IsAllFit, few_frames, planned_fits}
use Rattle.dmr_planning.specs.Planning.{Planned, planned_by}
use Rattle.dmr_planning.specs.Plans.{HasSlot}
use Rattle.dmr_script.specs.Fits.{FitsNumbered}
use Rattle.dmr_script.specs.declared.statement.NumberedStatement.{NumberedStatement}
use Rattle.dmr_planning.proofs.planner.plan_script.Goals as goal

pub sort_sends-requires-clause-small : goal.sort_sends-requires-clause-small
sort_sends-requires-clause-small c = λ k d lt.
    let all : List NumberedStatement = c.deref-statements.result.now in
    let by_line : AreByLine (length all) c.take_all.new.self.sends.items =
    are_by_line all c.own_colour-own.result c.args.is_outgoing_taken (length all) (planned_by c.take_all.new.self)
    c.in_ok-take_all.ensures.planned in
    let below = by_line.below k d lt in
    let few = c.in_ok-take_all.ensures.few in
    omega (arith, below, few)

pub sort_sends-requires-clause-by_line : goal.sort_sends-requires-clause-by_line
sort_sends-requires-clause-by_line c =
    let all : List NumberedStatement = c.deref-statements.result.now in
    let by_line : AreByLine (length all) c.take_all.new.self.sends.items =
    are_by_line all c.own_colour-own.result c.args.is_outgoing_taken (length all) (planned_by c.take_all.new.self)
    c.in_ok-take_all.ensures.planned in
    sorted_by_line c.take_all.new.self.sends.items by_line.rising

pub returns-clause-fit : goal.returns-clause-fit
returns-clause-fit c =
    let all : List NumberedStatement = c.deref-statements.result.now in
    let p : Planned = planned_by c.take_all.new.self in
    let fit : All FitsNumbered all = subst (All FitsNumbered) (sym c.deref-statements.ensures.value) c.requires.fit in
    let fits : IsAllFit all p =
    planned_fits all c.own_colour-own.result c.args.is_outgoing_taken (length all) p fit c.in_ok-take_all.ensures.planned in
    let same : planned_by c.sort_sends.new.self ≡ record p { sends = c.sort_sends.new.self.sends.items } =
    c.in_ok-sort_sends.ensures.planned in
    let one : c.sort_sends.new.self.first.placed.items ≡ p.first.placed = ap (λ (x : Planned). x.first.placed) same in
    let two : c.sort_sends.new.self.second.placed.items ≡ p.second.placed = ap (λ (x : Planned). x.second.placed) same in
    let sent : c.sent.result ≤ 1048576 =
    let a = c.in_ok-take_all.ensures.within.first in
    let b = c.in_ok-take_all.ensures.within.second in
    let v = c.sent.ensures.value in
    omega (arith, a, b, v) in
    record {
      statements = fit;
      own = c.own_colour-own.ensures.fit;
      frames = few_frames p.told c.sent.result c.in-Ok.frames fits.told sent (sym c.frames_of.ensures.value ∙ c.in-Ok.is);
      first = subst (All (IsFitPlaced all)) (sym one) fits.first.placed;
      second = subst (All (IsFitPlaced all)) (sym two) fits.second.placed;
      first_ordered = subst (IsOrdered 0) (sym one) fits.first.ordered;
      second_ordered = subst (IsOrdered 0) (sym two) fits.second.ordered;
      sends = All-permutation HasSlot p.sends c.sort_sends.new.self.sends.items c.in_ok-sort_sends.ensures.order.same fits.sends;
    }
