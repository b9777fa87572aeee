use Rattle.std.proofs.Common.{rules, [], ◌∷◌}
use Rattle.std.proofs.lemmas.Result.{err_from_is_err_and}
use Rattle.std.proofs.KnownBytes.{Consumes-trans}
use Rattle.dmr_record.proofs.UplinkLemmas.{ShowsUplinkSlotFault-within}
use Rattle.dmr_record.proofs.uplink.read_uplink_slot.Goals as goal

pub returns-in_err-read_slot_into-clause-fault : goal.returns-in_err-read_slot_into-clause-fault
returns-in_err-read_slot_into-clause-fault g c =
    let p = err_from_is_err_and c.from_residual-in_err-read_slot_into.result c.from_residual-in_err-read_slot_into.ensures.1 in
    let octet = rw c.in-Some.is at c.in_ok-tag.ensures.octet in
    let (rest, took, shows) = c.in_err-read_slot_into.ensures.fault in
    rw (p.1, p.2) (
      c.in-Some.tag ∷ rest,
      Consumes-trans _ _ _ (c.in-Some.tag ∷ []) rest octet took,
      ShowsUplinkSlotFault-within _ _ _ _ c.if-before-ge-UPLINK_SLOT_LIMIT.false shows,
    )

pub returns-clause-slot : goal.returns-clause-slot
returns-clause-slot g c = search rules
