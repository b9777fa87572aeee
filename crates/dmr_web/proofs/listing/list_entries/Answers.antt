use Rattle.dmr_recording.specs.declared.recording.Recording.TheVariants.{Uplink, Downlink}
use Rattle.dmr_show.proofs.Shown.{told}
use Rattle.dmr_web.proofs.Windows.{not_given, outgoing_in_part, outgoing_listed, outgoing_to_fault, received_in_part}
use Rattle.dmr_web.proofs.Windows.{received_listed, received_to_fault, recording_in_part, recording_listed, recording_to_fault}
use Rattle.dmr_web.proofs.Windows.{window}
use Rattle.dmr_web.proofs.listing.list_entries.Goals as goal

pub returns-in-Ok-clause-whole : goal.returns-in-Ok-clause-whole
returns-in-Ok-clause-whole g c =
    let (slots, end, listed, frames, bursts) = c.in-Ok.ensures.all in
    rw c.in-Uplink.is (recording_listed c.args.window.now c.list_recording.new.lines _ window Uplink slots end _ _ listed
    c.requires.begun (λ a x b t. t))

pub returns-in-Err-clause-fault : goal.returns-in-Err-clause-fault
returns-in-Err-clause-fault g c = told c.in-Err.stop _ _ c.in-Err.ensures.fault (λ fault listed.
    rw c.in-Uplink.is (recording_to_fault c.args.window.now c.list_recording.new.lines _ window Uplink fault _ _ listed
    c.requires.begun (λ a x b t. t)))

pub returns-in-Err-clause-part : goal.returns-in-Err-clause-part
returns-in-Err-clause-part g c = not_given c.in-Err.stop _ _ c.in-Err.ensures.output (λ listed.
    rw c.in-Uplink.is (recording_in_part c.args.window.now c.list_recording.new.lines _ _ window Uplink _ _ listed
    c.requires.begun (λ a x b t. t) (λ a x b t. t)))

pub returns-in-Ok-list_recording-clause-whole : goal.returns-in-Ok-list_recording-clause-whole
returns-in-Ok-list_recording-clause-whole g c =
    let (slots, end, listed, frames, bursts) = c.in-Ok-list_recording.ensures.all in
    rw c.in-Downlink.is (recording_listed c.args.window.now c.list_recording-in-Downlink.new.lines _ window
    Downlink slots end _ _ listed c.requires.begun (λ a x b t. t))

pub returns-in-Err-list_recording-clause-fault : goal.returns-in-Err-list_recording-clause-fault
returns-in-Err-list_recording-clause-fault g c = told c.in-Err-list_recording.stop _ _ c.in-Err-list_recording.ensures.fault (λ
    fault listed.
    rw c.in-Downlink.is (recording_to_fault c.args.window.now c.list_recording-in-Downlink.new.lines _ window
    Downlink fault _ _ listed c.requires.begun (λ a x b t. t)))

pub returns-in-Err-list_recording-clause-part : goal.returns-in-Err-list_recording-clause-part
returns-in-Err-list_recording-clause-part g c = not_given c.in-Err-list_recording.stop _ _ c.in-Err-list_recording.ensures.output
    (λ listed.
    rw c.in-Downlink.is (recording_in_part c.args.window.now c.list_recording-in-Downlink.new.lines _ _ window
    Downlink _ _ listed c.requires.begun (λ a x b t. t) (λ a x b t. t)))

pub returns-in-Ok-list_outgoing-clause-whole : goal.returns-in-Ok-list_outgoing-clause-whole
returns-in-Ok-list_outgoing-clause-whole g c =
    let (records, listed, many) = c.in-Ok-list_outgoing.ensures.all in
    rw c.in-Outgoing.is (outgoing_listed c.args.window.now c.list_outgoing.new.lines _ window records _ _ listed c.requires.begun
    (λ a x b t. t))

pub returns-in-Err-list_outgoing-clause-fault : goal.returns-in-Err-list_outgoing-clause-fault
returns-in-Err-list_outgoing-clause-fault g c = told c.in-Err-list_outgoing.stop _ _ c.in-Err-list_outgoing.ensures.fault (λ fault
    listed.
    rw c.in-Outgoing.is (outgoing_to_fault c.args.window.now c.list_outgoing.new.lines _ window fault _ _ listed c.requires.begun
    (λ a x b t. t)))

pub returns-in-Err-list_outgoing-clause-part : goal.returns-in-Err-list_outgoing-clause-part
returns-in-Err-list_outgoing-clause-part g c = not_given c.in-Err-list_outgoing.stop _ _ c.in-Err-list_outgoing.ensures.output (λ
    listed.
    rw c.in-Outgoing.is (outgoing_in_part c.args.window.now c.list_outgoing.new.lines _ _ window _ _ listed c.requires.begun (λ a
    x b t. t) (λ a x b t. t)))

pub returns-in-Ok-list_received-clause-whole : goal.returns-in-Ok-list_received-clause-whole
returns-in-Ok-list_received-clause-whole g c =
    let (records, listed, many) = c.in-Ok-list_received.ensures.all in
    rw c.in-Received.is (received_listed c.args.window.now c.list_received.new.lines _ window records _ _ listed c.requires.begun
    (λ a x b t. t))

pub returns-in-Err-list_received-clause-fault : goal.returns-in-Err-list_received-clause-fault
returns-in-Err-list_received-clause-fault g c = told c.in-Err-list_received.stop _ _ c.in-Err-list_received.ensures.fault (λ fault
    listed.
    rw c.in-Received.is (received_to_fault c.args.window.now c.list_received.new.lines _ window fault _ _ listed c.requires.begun
    (λ a x b t. t)))

pub returns-in-Err-list_received-clause-part : goal.returns-in-Err-list_received-clause-part
returns-in-Err-list_received-clause-part g c = not_given c.in-Err-list_received.stop _ _ c.in-Err-list_received.ensures.output (λ
    listed.
    rw c.in-Received.is (received_in_part c.args.window.now c.list_received.new.lines _ _ window _ _ listed c.requires.begun (λ a
    x b t. t) (λ a x b t. t)))
