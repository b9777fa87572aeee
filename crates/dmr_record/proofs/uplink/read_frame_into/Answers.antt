use Rattle.std.proofs.Common.{[], ◌∷◌, ◌++◌, append-nil}
use Rattle.std.proofs.lemmas.Result.{err_from_is_err_and}
use Rattle.std.proofs.KnownBytes.{Consumes-trans}
use Rattle.dmr_record.specs.declared.fault.RecordFault.TheVariants.{Read}
use Rattle.dmr_record.specs.Uplink.{slot_octets}
use Rattle.dmr_record.proofs.UplinkLemmas.{slot_taken, ShowsFault-in_slot, EndsInSlot-first, EndsInSlot-second}
use Rattle.dmr_record.proofs.uplink.read_frame_into.Goals as goal

pub returns-in_err-read_slot_into-clause-fault : goal.returns-in_err-read_slot_into-clause-fault
returns-in_err-read_slot_into-clause-fault g c =
    let p = err_from_is_err_and c.from_residual-in_err-read_slot_into.result c.from_residual-in_err-read_slot_into.ensures.1 in
    let octet = rw c.in-Some.is at c.in_ok-tag.ensures.octet in
    let (rest, took, shows) = c.in_err-read_slot_into.ensures.fault in
    rw (p.1, p.2) (
      c.in-Some.tag ∷ rest,
      Consumes-trans _ _ _ (c.in-Some.tag ∷ []) rest octet took,
      ShowsFault-in_slot _ _ _ _ c.if-before-ge-FRAME_LIMIT.false (EndsInSlot-first _ _ shows),
    )

pub returns-in_err-tag-2-clause-fault : goal.returns-in_err-tag-2-clause-fault
returns-in_err-tag-2-clause-fault g c =
    let p = err_from_is_err_and c.from_residual-in_err-tag-2.result c.from_residual-in_err-tag-2.ensures.1 in
    let slot = c.read_slot_into.new.slot in
    let octet = rw c.in-Some.is at c.in_ok-tag.ensures.octet in
    let first = slot_taken _ _ _ _ slot c.in_ok-read_slot_into.ensures.tag octet c.in_ok-read_slot_into.ensures.body in
    rw (p.1, p.2, c.in_err-tag-2.ensures.fault) (
      slot_octets slot ++ [],
      Consumes-trans _ _ _ (slot_octets slot) [] first c.in_err-tag-2.ensures.taken,
      ShowsFault-in_slot _ _ Read _ c.if-before-ge-FRAME_LIMIT.false
          (EndsInSlot-second Read slot [] c.in_ok-read_slot_into.ensures.slot tt),
    )

pub returns-in_default-2-clause-fault : goal.returns-in_default-2-clause-fault
returns-in_default-2-clause-fault g c =
    let slot = c.read_slot_into.new.slot in
    let octet = rw c.in-Some.is at c.in_ok-tag.ensures.octet in
    let first = slot_taken _ _ _ _ slot c.in_ok-read_slot_into.ensures.tag octet c.in_ok-read_slot_into.ensures.body in
    let end = rw c.in_default-2.is at c.in_ok-tag-2.ensures.end in (
      slot_octets slot ++ [],
      Consumes-trans _ _ _ (slot_octets slot) [] first end.0,
      (c.if-before-ge-FRAME_LIMIT.false, slot, c.in_ok-read_slot_into.ensures.slot, append-nil (slot_octets slot)),
    )

pub returns-in_err-read_slot_into-2-clause-fault : goal.returns-in_err-read_slot_into-2-clause-fault
returns-in_err-read_slot_into-2-clause-fault g c =
    let p = err_from_is_err_and c.from_residual-in_err-read_slot_into-2.result c.from_residual-in_err-read_slot_into-2.ensures.1 in
    let slot = c.read_slot_into.new.slot in
    let octet = rw c.in-Some.is at c.in_ok-tag.ensures.octet in
    let octet-2 = rw c.in-Some-2.is at c.in_ok-tag-2.ensures.octet in
    let first = slot_taken _ _ _ _ slot c.in_ok-read_slot_into.ensures.tag octet c.in_ok-read_slot_into.ensures.body in
    let (rest, took, shows) = c.in_err-read_slot_into-2.ensures.fault in
    let second = Consumes-trans _ _ _ (c.in-Some-2.tag ∷ []) rest octet-2 took in
    rw (p.1, p.2) (
      slot_octets slot ++ (c.in-Some-2.tag ∷ rest),
      Consumes-trans _ _ _ (slot_octets slot) (c.in-Some-2.tag ∷ rest) first second,
      ShowsFault-in_slot _ _ _ _ c.if-before-ge-FRAME_LIMIT.false
          (EndsInSlot-second _ slot _ c.in_ok-read_slot_into.ensures.slot shows),
    )
