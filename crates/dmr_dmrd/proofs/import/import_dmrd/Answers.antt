use Rattle.dmr_dmrd.proofs.import.import_dmrd.Goals as goal

pub returns-in-Err-Capture-clause-cut : goal.returns-in-Err-Capture-clause-cut
returns-in-Err-Capture-clause-cut g c = rw c.in-Err-Capture.field-0-is at c.in-Err-Capture.ensures.cut
