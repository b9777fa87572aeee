use Rattle.std.proofs.Common.{arith, ap, sym, ◌∙◌}
use Rattle.std.proofs.lemmas.Bool.{both_ways}
use Rattle.dmr_station.specs.Station.{State}
use Rattle.dmr_station.proofs.TakenInOrder.{few_received}
use Rattle.dmr_station.proofs.station.Station.decide.Goals.{then-is_silent, else-is_silent}
use Rattle.dmr_station.proofs.station.Station.decide.Goals as goal

pub invariant_of-self : goal.invariant_of-self
invariant_of-self c =
    let bound = c.requires.frames in
    let own = ap (λ (s : State). s.frames) c.self.view_is in
    let old = c.self.invariant.0 in
    let few = few_received c.take_outcomes-outcomes.new.self.gate in
    let frames = old.frames in
    let a = old.repeated in
    let b = old.received in
    let d = old.delivered in
    let e = old.sent in
    let f = old.given_up in
    let x = c.pass-repeated.ensures.bound in
    let y = c.count_outcomes-came_to.ensures.few.0 in
    let z = c.count_outcomes-came_to.ensures.few.1 in
    let w = c.count_outcomes-came_to.ensures.few.2 in (
      record {
        frames = omega arith;
        repeated = omega arith;
        received = omega arith;
        delivered = omega arith;
        sent = omega arith;
        given_up = omega arith;
        refused = old.refused;
      },
      λ told. elim c.if-is_silent.branch [
        | then-is_silent w ↦ w.is_at_rest-self-inside.ensures.rests (sym w.self-is ∙ told)
        | else-is_silent w ↦ absurd (both_ways c.if-is_silent.self (w.self-is ∙ w.if-is_silent.false) told)
      ],
    )
