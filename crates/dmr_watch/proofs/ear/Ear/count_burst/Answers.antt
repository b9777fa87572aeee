use Rattle.std.proofs.Common.{List, ℕ, ap, arith, length, subst, ◌∙◌}
use Rattle.std.proofs.lemmas.List.{take_all}
use Rattle.dmr_watch.specs.Heard.{HearsBurst}
use Rattle.dmr_watch.proofs.ear.Ear.count_burst.Goals as goal

pub returns-in-Some-clause-counted : goal.returns-in-Some-clause-counted
returns-in-Some-clause-counted c =
    let chunk = c.in-Some.ensures.cases in
    let long = ap length c.as_slice.ensures.value in
    record {
      part = λ few. let none : ⊥ = omega (arith, few, chunk.enough, long) in absurd none;
      whole = λ is. subst
          (λ (burst : List ℕ). HearsBurst c.args.self.now.colour burst c.args.self.now.heard c.with-self.result)
          (chunk.same ∙ take_all 33 c.as_slice.result.now c.as_slice.ensures.fits ∙ c.as_slice.ensures.value)
          c.with-self.ensures.counted;
    }
