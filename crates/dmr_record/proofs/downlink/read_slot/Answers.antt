use Rattle.std.proofs.Common.{rules, ◌∷◌, refl}
use Rattle.std.proofs.lemmas.Result.{err_from_is_err_and}
use Rattle.dmr_record.proofs.DownlinkLemmas.{ShowsDownlinkFault-part}
use Rattle.dmr_record.proofs.Pieces.{tagged}
use Rattle.dmr_record.proofs.downlink.read_slot.Goals as goal

pub returns-in_err-sent-in-1-clause-fault : goal.returns-in_err-sent-in-1-clause-fault
returns-in_err-sent-in-1-clause-fault g c =
    let p = err_from_is_err_and c.from_residual-in_err-sent-in-1.result c.from_residual-in_err-sent-in-1.ensures.1 in
    let octet = rw c.in-Some.is at c.in_ok-tag.ensures.octet in
    let (part, fewer, took) = c.in_err-sent-in-1.ensures.part in
    rw (p.1, p.2) (
      1 ∷ part,
      tagged _ _ _ _ 1 part c.in-1.is octet took,
      ShowsDownlinkFault-part _ _ _ (1 ∷ part) c.if-before-ge-SLOT_LIMIT.false (λ e. (cc)) c.in_err-sent-in-1.ensures.cause (
        refl,
        fewer,
      ),
    )

pub returns-in_default-clause-end : goal.returns-in_default-clause-end
returns-in_default-clause-end g c = search rules
