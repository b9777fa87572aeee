use Rattle.dmr_script.proofs.call_shapes.has_companion.Goals as goal

pub returns-in-Some : goal.returns-in-Some
returns-in-Some c = rw c.in-Some.ensures.cases.0 c.is_there_within.ensures
