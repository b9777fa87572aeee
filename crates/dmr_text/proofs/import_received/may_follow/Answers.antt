use Rattle.dmr_text.proofs.import_received.may_follow.Goals as goal

pub returns-in-Some-clause-one : goal.returns-in-Some-clause-one
returns-in-Some-clause-one c = rw c.in-Some.is c.follows.ensures.value
