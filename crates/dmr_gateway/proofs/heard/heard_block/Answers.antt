use Rattle.std.proofs.Common.{subst}
use Rattle.dmr_gateway.specs.Heard.{Tells, IsConfirmedOf}
use Rattle.dmr_gateway.proofs.heard.heard_block.Goals as goal

pub returns-clause-confirmed : goal.returns-clause-confirmed
returns-clause-confirmed c =
    subst (λ octets. Tells c.confirmed_of-place.result (IsConfirmedOf c.args.rate octets)) c.as_slice.ensures.value
    c.confirmed_of-place.ensures.tells
