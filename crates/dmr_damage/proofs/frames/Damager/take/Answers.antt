use Rattle.std.proofs.Common.{[], ◌∷◌, refl, sym, subst}
use Rattle.dmr_damage.proofs.Behind.{IsRate, rate_decides}
use Rattle.dmr_damage.proofs.frames.Damager.take.Goals as goal

pub returns-in-Rate-clause-decided : goal.returns-in-Rate-clause-decided
returns-in-Rate-clause-decided c damage frames outs is =
    rate_decides damage c.args.self.now _ c.in-Rate.errors c.in-Rate.loss frames outs c.args.frame.now
    (c.slot_at_rate.result ∷ c.slot_at_rate-in-Rate.result ∷ [])
    (subst (IsRate c.in-Rate.errors c.in-Rate.loss) (sym c.in-Rate.is) (refl, refl)) (refl, refl)
    (record { first = c.slot_at_rate.ensures.at_rate; second = c.slot_at_rate-in-Rate.ensures.at_rate }) is
