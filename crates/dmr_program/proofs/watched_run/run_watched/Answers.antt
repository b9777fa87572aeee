use Rattle.std.proofs.Common.{ℕ, List, Option, subst, sym}
use Rattle.dmr_repeater.specs.Runs.{HasOutgoing}
use Rattle.dmr_program.proofs.watched_run.run_watched.Goals as goal

pub returns-clause-listed : goal.returns-clause-listed
returns-clause-listed g c = λ sendings has. c.end_with-end.ensures.listed sendings
    (c.run_over-end.ensures.listed sendings
    (subst (λ (left : Option (List ℕ)). HasOutgoing sendings left) (sym c.in_ok-outgoing.ensures.octets) has))
