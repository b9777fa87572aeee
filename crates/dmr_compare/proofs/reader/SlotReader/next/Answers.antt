use Rattle.std.proofs.Common.{◌≡◌, ◌+◌, ◌<◌, length, sym, ap, subst, arith}
use Rattle.dmr_recording.specs.Recordings.{IsSlotOf, RecordedSlot, slot_limit_of, spelling}
use Rattle.std.specs.Io.KnownBytes.{Consumes}
use Rattle.dmr_compare.proofs.Reading.{goes_on}
use Rattle.dmr_compare.proofs.reader.SlotReader.next.Goals as goal

-- a slot that was read stands behind those before it
pub returns-in-Ok-Slot-clause-read : goal.returns-in-Ok-Slot-clause-read
returns-in-Ok-Slot-clause-read g c = λ slots start h.
    let (below, is_slot, octets) = rw c.in-Ok-Slot.field-0-is at c.in-Ok-Slot.ensures.slot in
    let same = sym c.list_slot.ensures.slot in
    let recording = c.args.self.now.recording in
    goes_on recording c.args.self.now.view c.list_slot.new.view c.args.self.now.octet _ c.args.self.now.is_over slots
    c.list_slot.result start (g.S.Source.left c.args.source.now) (g.S.Source.left c.read_recording.new.source) h c.if-self.false
    (subst (λ n. n < slot_limit_of recording) c.slots.ensures.value below)
    (subst (λ (s : RecordedSlot). IsSlotOf recording s) same is_slot)
    (subst (λ (s : RecordedSlot). Consumes (g.S.Source.left c.args.source.now) (g.S.Source.left c.read_recording.new.source)
    (spelling recording s)) same octets)
    c.list_slot.ensures.line
    (ap (λ n. c.args.self.now.octet + n) (subst (λ (s : RecordedSlot). c.record_octets.result ≡ length (spelling recording s)) same
    c.record_octets.ensures.octets))
    (omega (arith, c.record_octets.ensures.few))
