use Rattle.dmr_compare.proofs.Told.{told_apart}
use Rattle.dmr_compare.proofs.files.compare.Goals as goal

-- the status tells the two apart
pub returns-in-Ok-clause-whole : goal.returns-in-Ok-clause-whole
returns-in-Ok-clause-whole g c = λ low.
    let (format, contents, whole) = c.in-Ok.ensures.whole in
    told_apart c.args.settings.now format contents c.in-Ok.counts c.status.result _ _ _ _ _ _ whole c.status.ensures.value
