use Rattle.std.proofs.Common.{◌+◌, ◌*◌, ◌<◌, ◌++◌, ◌∷◌, [], Some, sym, ap, subst, ◌∙◌, arith, length}
use Rattle.std.specs.Io.KnownBytes.{Consumes}
use Rattle.std.proofs.KnownBytes.{Consumes-trans}
use Rattle.std.proofs.lemmas.List.{append-nil}
use Rattle.dmr_record.specs.NextSlot.{IfSlot}
use Rattle.dmr_record.specs.Uplink.{IsSilenceOrBurst, slot_octets, uplink_slot_limit}
use Rattle.dmr_damage.proofs.reading.read_pair.Goals as goal

pub returns-in-Err-read_uplink_slot-clause-fault : goal.returns-in-Err-read_uplink_slot-clause-fault
returns-in-Err-read_uplink_slot-clause-fault g c =
    let slot = c.in-Ok-Slot.slot in
    let first : (2 * c.args.frames < uplink_slot_limit) × IsSilenceOrBurst slot
    × Consumes (g.S.Source.left c.args.source.now) (g.S.Source.left c.read_uplink_slot.new.source) (slot_octets slot) =
    subst (λ x. IfSlot x (λ s. (2 * c.args.frames < uplink_slot_limit) × IsSilenceOrBurst s
    × Consumes (g.S.Source.left c.args.source.now) (g.S.Source.left c.read_uplink_slot.new.source) (slot_octets s)))
    c.in-Ok-Slot.field-0-is c.in-Ok-Slot.ensures.slot in
    let second = c.in-Err-read_uplink_slot.ensures.fault in (
      slot_octets slot ++ second.0,
      Consumes-trans _ _ _ (slot_octets slot) second.0 first.2 second.1,
      record {
        slots = slot ∷ [];
        few = omega arith;
        whole = (first.1, tt);
        part = second.0;
        split = ap (λ l. l ++ second.0) (sym (append-nil (slot_octets slot)));
        shown = second.2;
        octet = ap (λ n. c.args.octet + n) (c.slot_length.ensures.octets ∙ ap length (sym (append-nil (slot_octets slot))));
        place = ap Some c.of_slot-in-Err-read_uplink_slot.ensures.value;
      },
    )
