use Rattle.dmr_voice.specs.declared.said.Role.TheVariants as role
use Rattle.dmr_voice.proofs.decision.Decision.repeat.Goals as goal

pub returns-in-Filled-InCall-clause-said : goal.returns-in-Filled-InCall-clause-said
returns-in-Filled-InCall-clause-said c =
    rw (c.in-Filled-InCall.is-0, c.in-Filled-InCall.is-1, ← c.zero-zeros.ensures.value)
    (c.repeat_place-in-Filled-InCall.ensures.said (role.Call c.in-Filled-InCall.call))
