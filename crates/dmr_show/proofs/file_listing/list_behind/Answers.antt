use Rattle.dmr_recording.specs.declared.recording.Recording.TheVariants.{Uplink, Downlink}
use Rattle.dmr_show.proofs.Shown.{outgoing_shown, outgoing_shown_up_to_fault, received_shown, received_shown_up_to_fault}
use Rattle.dmr_show.proofs.Shown.{recording_shown, recording_shown_up_to_fault, told}
use Rattle.dmr_show.proofs.Shown.{failed_at}
use Rattle.dmr_show.specs.Held.{held_by}
use Rattle.dmr_show.proofs.file_listing.list_behind.Goals as goal

pub returns-in-Ok-clause-whole : goal.returns-in-Ok-clause-whole
returns-in-Ok-clause-whole g c =
    let (slots, end, listed, frames, bursts) = c.in-Ok.ensures.all in
    rw c.in-Uplink.is (recording_shown c.args.lines.now c.list_recording.new.lines _ (λ l. l.filter)
    (λ l. held_by (g.K.Sink.held l.sink.now) l.waiting) Uplink c.in-Ok.summary slots end _ _ listed frames bursts
    (λ a x b t. (t.0, t.2)))

pub returns-in-Err-clause-fault : goal.returns-in-Err-clause-fault
returns-in-Err-clause-fault g c = told c.in-Err.end _ _ c.in-Err.ensures.fault (λ fault listed.
    rw c.in-Uplink.is (recording_shown_up_to_fault c.args.lines.now c.list_recording.new.lines _ (λ l. l.filter)
    (λ l. held_by (g.K.Sink.held l.sink.now) l.waiting) Uplink fault _ _ listed (λ a x b t. (t.0, t.2))))

pub returns-in-Ok-list_recording-clause-whole : goal.returns-in-Ok-list_recording-clause-whole
returns-in-Ok-list_recording-clause-whole g c =
    let (slots, end, listed, frames, bursts) = c.in-Ok-list_recording.ensures.all in
    rw c.in-Downlink.is (recording_shown c.args.lines.now c.list_recording-in-Downlink.new.lines _ (λ l. l.filter)
    (λ l. held_by (g.K.Sink.held l.sink.now) l.waiting) Downlink c.in-Ok-list_recording.summary slots end _ _ listed frames bursts
    (λ a x b t. (t.0, t.2)))

pub returns-in-Err-list_recording-clause-fault : goal.returns-in-Err-list_recording-clause-fault
returns-in-Err-list_recording-clause-fault g c = told c.in-Err-list_recording.end _ _ c.in-Err-list_recording.ensures.fault
    (λ fault listed.
    rw c.in-Downlink.is (recording_shown_up_to_fault c.args.lines.now c.list_recording-in-Downlink.new.lines _ (λ l. l.filter)
    (λ l. held_by (g.K.Sink.held l.sink.now) l.waiting) Downlink fault _ _ listed (λ a x b t. (t.0, t.2))))

pub returns-in-Ok-list_outgoing-clause-whole : goal.returns-in-Ok-list_outgoing-clause-whole
returns-in-Ok-list_outgoing-clause-whole g c =
    let (records, listed, many) = c.in-Ok-list_outgoing.ensures.all in
    rw c.in-Outgoing.is (outgoing_shown c.args.lines.now c.list_outgoing.new.lines _ (λ l. l.filter)
    (λ l. held_by (g.K.Sink.held l.sink.now) l.waiting) c.in-Ok-list_outgoing.count records _ _ listed many (λ a x b t. (t.0, t.2)))

pub returns-in-Err-list_outgoing-clause-fault : goal.returns-in-Err-list_outgoing-clause-fault
returns-in-Err-list_outgoing-clause-fault g c = told c.in-Err-list_outgoing.end _ _ c.in-Err-list_outgoing.ensures.fault
    (λ fault listed.
    rw c.in-Outgoing.is (outgoing_shown_up_to_fault c.args.lines.now c.list_outgoing.new.lines _ (λ l. l.filter)
    (λ l. held_by (g.K.Sink.held l.sink.now) l.waiting) fault _ _ listed (λ a x b t. (t.0, t.2))))

pub returns-in-Ok-list_received-clause-whole : goal.returns-in-Ok-list_received-clause-whole
returns-in-Ok-list_received-clause-whole g c =
    let (records, listed, many) = c.in-Ok-list_received.ensures.all in
    rw c.in-Received.is (received_shown c.args.lines.now c.list_received.new.lines _ (λ l. l.filter)
    (λ l. held_by (g.K.Sink.held l.sink.now) l.waiting) c.in-Ok-list_received.count records _ _ listed many (λ a x b t. (t.0, t.2)))

pub returns-in-Err-list_received-clause-fault : goal.returns-in-Err-list_received-clause-fault
returns-in-Err-list_received-clause-fault g c = told c.in-Err-list_received.end _ _ c.in-Err-list_received.ensures.fault
    (λ fault listed.
    rw c.in-Received.is (received_shown_up_to_fault c.args.lines.now c.list_received.new.lines _ (λ l. l.filter)
    (λ l. held_by (g.K.Sink.held l.sink.now) l.waiting) fault _ _ listed (λ a x b t. (t.0, t.2))))

pub returns-in-Err-clause-failed : goal.returns-in-Err-clause-failed
returns-in-Err-clause-failed g c = failed_at c.in-Err.end _ _ c.in-Err.ensures.source
    c.in-Err.ensures.lines c.in-Err.ensures.others

pub returns-in-Err-list_recording-clause-failed : goal.returns-in-Err-list_recording-clause-failed
returns-in-Err-list_recording-clause-failed g c = failed_at c.in-Err-list_recording.end _ _ c.in-Err-list_recording.ensures.source
    c.in-Err-list_recording.ensures.lines c.in-Err-list_recording.ensures.others

pub returns-in-Err-list_outgoing-clause-failed : goal.returns-in-Err-list_outgoing-clause-failed
returns-in-Err-list_outgoing-clause-failed g c = failed_at c.in-Err-list_outgoing.end _ _ c.in-Err-list_outgoing.ensures.source
    c.in-Err-list_outgoing.ensures.lines c.in-Err-list_outgoing.ensures.others

pub returns-in-Err-list_received-clause-failed : goal.returns-in-Err-list_received-clause-failed
returns-in-Err-list_received-clause-failed g c = failed_at c.in-Err-list_received.end _ _ c.in-Err-list_received.ensures.source
    c.in-Err-list_received.ensures.lines c.in-Err-list_received.ensures.others
