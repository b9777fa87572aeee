use Rattle.std.proofs.Common.{ℕ, List, Option, subst, sym}
use Rattle.dmr_repeater.specs.Runs.{HasOutgoing}
use Rattle.dmr_program.proofs.running.run_buffered.Goals as goal

pub returns-clause-listed : goal.returns-clause-listed
returns-clause-listed g c =
    let octets = rw c.in_ok-outgoing.ensures.value at c.buffered_source-2.ensures.octets in
    λ sendings has. c.end_with.ensures.listed sendings
    (c.run_over-end.ensures.listed sendings
    (subst (λ (left : Option (List ℕ)). HasOutgoing sendings left) (sym octets) has))
