use Rattle.std.proofs.Common.{rules, [], ◌∷◌, ◌++◌, sym, ap, ◌∙◌, arith, append-nil}
use Rattle.std.proofs.lemmas.List.{length-append}
use Rattle.dmr_log.specs.RecordingLogs.{slots_of_frames}
use Rattle.dmr_log.proofs.Logging.{count_begun, count_none, faulty, octet_begun, octet_frame, taken_begun, taken_frame}
use Rattle.dmr_recording.specs.Places.{octet_behind}
use Rattle.dmr_recording.specs.Recordings.{spelling}
use Rattle.dmr_recording.specs.declared.recording.Recording.TheVariants.{Uplink}
use Rattle.dmr_log.proofs.recording_log.take_frames.Goals as goal

pub returns-in-Err-clause-fault : goal.returns-in-Err-clause-fault
returns-in-Err-clause-fault g c =
    let inv = c.loop-slot.invariant in
    let (frames, counted, octet, taken) = inv.so_far in
    faulty g.L.Taker.Takes c.args.log.now c.loop-slot.log frames [] c.loop-slot.at c.in-Err.fault _ _ _ _ _
    (omega arith) taken
    (count_none frames c.loop-slot.at.slots (omega (arith, counted, inv.taken)))
    (octet ∙ ap (octet_behind (spelling Uplink)) (sym (append-nil (slots_of_frames frames))))
    c.in-Err.ensures.fault

pub returns-in-Err-next_slot-clause-fault : goal.returns-in-Err-next_slot-clause-fault
returns-in-Err-next_slot-clause-fault g c =
    let inv = c.loop-slot.invariant in
    let (frames, counted, octet, taken) = inv.so_far in
    let slot = c.in-Ok-Slot.slot in
    let (below, is_slot, octets, slots_next, octet_next) = rw c.in-Ok-Slot.field-0-is at c.in-Ok-Slot.ensures.slot in
    faulty g.L.Taker.Takes c.args.log.now c.loop-slot.log frames (slot ∷ []) c.next_slot.new.at c.in-Err-next_slot.fault
    _ _ _ _ _
    (omega arith)
    (taken_begun g.L.Taker.Takes c.args.log.now c.loop-slot.log frames slot _ _ _ _ _ taken is_slot octets)
    (count_begun frames slot c.next_slot.new.at.slots (omega (arith, counted, inv.taken, slots_next)))
    (octet_next ∙ octet_begun frames slot c.loop-slot.at.octet octet)
    c.in-Err-next_slot.ensures.fault

pub loop-slot-preserved : goal.loop-slot-preserved
loop-slot-preserved g c =
    let inv = c.loop-slot.invariant in
    let (frames, counted, octet, taken) = inv.so_far in
    let one = c.in-Ok-Slot.slot in
    let two = c.in-Ok-Slot-next_slot.slot in
    let (below_1, is_slot_1, octets_1, slots_1, octet_1) = rw c.in-Ok-Slot.field-0-is at c.in-Ok-Slot.ensures.slot in
    let (below_2, is_slot_2, octets_2, slots_2, octet_2) =
    rw c.in-Ok-Slot-next_slot.field-0-is at c.in-Ok-Slot-next_slot.ensures.slot in
    let room = rw c.in-Ok-Slot-next_slot.field-0-is at c.in-Ok-Slot-next_slot.ensures.room in
    let logged = c.pass.ensures.logged in
    let more = length-append frames ((one, two) ∷ []) in
    record {
      source = search rules;
      lines = search rules;
      kept = c.put.ensures.kept ∙ inv.kept;
      few = omega (arith, below_2, slots_2);
      room = room;
      taken = omega (arith, inv.taken, slots_1, slots_2, logged.taken);
      so_far = (
        ◌++◌ frames ((one, two) ∷ []),
        omega (arith, more, counted, logged.taken),
        octet_2 ∙ octet_frame frames one two c.next_slot.new.at.octet
            (octet_1 ∙ octet_begun frames one c.loop-slot.at.octet octet),
        taken_frame g.L.Taker.Takes c.args.log.now c.loop-slot.log c.pass.new.self frames one two _ _ _ _ _ _
            (taken_begun g.L.Taker.Takes c.args.log.now c.loop-slot.log frames one _ _ _ _ _ taken is_slot_1 octets_1)
            is_slot_2 octets_2 (search rules) (search rules),
      );
    }
