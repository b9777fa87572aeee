use Rattle.std.proofs.Common.{rules, refl, ◌∷◌, [], ap, sym, subst, ◌∙◌, arith}
use Rattle.dmr_station.specs.Station.{State}
use Rattle.dmr_repeater.specs.Schedule.{ReadingProgress, Gives}
use Rattle.dmr_repeater.proofs.Records.{Gives-waiting, OffersDue-none, OffersDue-one, OffersDue-nothing}
use Rattle.dmr_repeater.proofs.Records.{given_of_offers, given_count}
use Rattle.dmr_repeater.proofs.Records.{StopsIn-at}
use Rattle.dmr_repeater.proofs.schedule.Schedule.offer_each.Goals as goal

pub loop-self-init : goal.loop-self-init
loop-self-init g c = record {
  well = c.requires.well;
  end = c.requires.end;
  offers = OffersDue-none c.args.frame c.args.self.now c.args.station.now _;
  counted = c.requires.counted;
  frames = refl;
  stays = λ end. end;
}

pub loop-self-preserved : goal.loop-self-preserved
loop-self-preserved g c =
    let (o, some, due) = c.in-Ok-true.ensures.due c.in-Ok-true.field-0-test in
    let value = c.offer_waiting.ensures.value in
    let offered = rw some at c.offer_waiting.ensures.offered in
    let gives = subst (λ (p : ReadingProgress). Gives c.loop-self.self p (o ∷ []) [] (g.S.Source.left c.loop-self.source)
    (g.S.Source.left c.has_due.new.source)) (sym value) (Gives-waiting _ _ o _ _ c.in-Ok-true.ensures.gives some) in
    let same = ap (λ (p : ReadingProgress). p.at_end) value in
    let inv = c.loop-self.invariant in
    let one = ap (λ (s : State). s.offered) offered.state in
    let counted = inv.counted in
    let given = given_count _ _ _ _ _ _ gives in
    record {
      well = search rules;
      end = λ end. c.has_due.ensures.end (sym same ∙ end);
      offers = OffersDue-one c.args.frame _ _ _ o _ _ _ _ _ _ inv.offers due gives offered;
      counted = omega (arith, given, one, counted);
      frames = ap (λ (s : State). s.frames) offered.state ∙ inv.frames;
      stays = λ end. same ∙ c.has_due.ensures.stays (inv.stays end);
    }

pub returns-in-Ok-false-clause-offers : goal.returns-in-Ok-false-clause-offers
returns-in-Ok-false-clause-offers g c =
    OffersDue-nothing c.args.frame _ _ _ _ _ _ _ _ c.loop-self.invariant.offers c.in-Ok-false.ensures.gives

pub returns-in-Ok-false-clause-counted : goal.returns-in-Ok-false-clause-counted
returns-in-Ok-false-clause-counted g c =
    let counted = c.loop-self.invariant.counted in
    let given = given_count _ _ _ _ _ _ c.in-Ok-false.ensures.gives in
    omega (arith, given, counted)

pub returns-in-Err-clause-fault : goal.returns-in-Err-clause-fault
returns-in-Err-clause-fault g c =
    let (taken, took, shows) = c.in-Err.ensures.fault in
    let given = given_of_offers c.args.frame _ _ _ _ _ _ c.loop-self.invariant.offers in
    StopsIn-at c.args.frame c.in-Err.fault c.args.self.now c.loop-self.self taken _ _ _ given took
    c.in-Err.ensures.none_waits shows c.loop-self.invariant.stays c.in-Err.ensures.unmet
