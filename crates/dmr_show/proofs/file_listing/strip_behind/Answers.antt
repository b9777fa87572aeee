use Rattle.dmr_show.proofs.Shown.{failed_of, strip_fault, strip_whole}
use Rattle.dmr_show.specs.Held.{held_by}
use Rattle.dmr_show.proofs.file_listing.strip_behind.Goals as goal

pub returns-clause-whole : goal.returns-clause-whole
returns-clause-whole g c = strip_whole c.strip_recording.result c.args.lines.now c.strip_recording.new.lines _ (λ l. l.filter)
    (λ l. held_by (g.K.Sink.held l.sink.now) l.waiting) c.args.recording c.frames-frames.result _ _ c.frames-frames.ensures.value
    c.strip_recording.ensures.all (λ a x b t. (t.0, t.2))

pub returns-clause-fault : goal.returns-clause-fault
returns-clause-fault g c = strip_fault c.strip_recording.result c.args.lines.now c.strip_recording.new.lines _ (λ l. l.filter)
    (λ l. held_by (g.K.Sink.held l.sink.now) l.waiting) c.args.recording c.frames-frames.result _ _ c.frames-frames.ensures.value
    c.strip_recording.ensures.fault (λ a x b t. (t.0, t.2))

pub returns-clause-failed : goal.returns-clause-failed
returns-clause-failed g c = failed_of c.strip_recording.result _ _ _ c.strip_recording.ensures.source
    c.strip_recording.ensures.lines c.strip_recording.ensures.others c.strip_recording.ensures.well
