use Rattle.std.proofs.Common.{rules, inl, inr, ◌∷◌, refl}
use Rattle.std.proofs.lemmas.Result.{err_from_is_err_and}
use Rattle.dmr_record.specs.Outgoing.{OutgoingFields, outgoing_field_octets, FitsOutgoing}
use Rattle.dmr_record.proofs.OutgoingLemmas.{ShowsOutgoingFault-part}
use Rattle.dmr_record.proofs.Pieces.{tagged}
use Rattle.dmr_record.proofs.outgoing.read_record.Goals as goal

pub returns-in_err-fields-clause-fault : goal.returns-in_err-fields-clause-fault
returns-in_err-fields-clause-fault g c =
    let p = err_from_is_err_and c.from_residual-in_err-fields.result c.from_residual-in_err-fields.ensures.1 in
    let octet = rw c.in-Some.is at c.in_ok-tag.ensures.octet in
    let (part, fewer, took) = c.in_err-fields.ensures.part in
    rw (p.1, p.2) (
      2 ∷ part,
      tagged _ _ _ _ 2 part c.if-tag-ne-OUTGOING.false octet took,
      ShowsOutgoingFault-part _ _ _ _ (2 ∷ part) c.if-before-ge-RECORD_LIMIT.false (λ e. (cc)) c.in_err-fields.ensures.cause
          (inr (inl (part, fewer, refl))),
    )

pub returns-in_default-mode_named-clause-fault : goal.returns-in_default-mode_named-clause-fault
returns-in_default-mode_named-clause-fault g c =
    let octet = rw c.in-Some.is at c.in_ok-tag.ensures.octet in
    let read = c.in_ok-fields.fields in
    let f : OutgoingFields = record { frame = read.frame; slot = read.slot; mode = read.mode; count = read.length } in
    let fit : FitsOutgoing f = record { frame = search rules; count = search rules } in (
      2 ∷ outgoing_field_octets f,
      tagged _ _ _ _ 2 (outgoing_field_octets f) c.if-tag-ne-OUTGOING.false octet c.in_ok-fields.ensures.fields,
      (c.if-before-ge-RECORD_LIMIT.false, inr (f, fit, c.in_default-mode_named.ensures.none, refl)),
    )

pub returns-then-fields-last-clause-fault : goal.returns-then-fields-last-clause-fault
returns-then-fields-last-clause-fault g c =
    let octet = rw c.in-Some.is at c.in_ok-tag.ensures.octet in
    let read = c.in_ok-fields.fields in
    let f : OutgoingFields = record { frame = read.frame; slot = read.slot; mode = read.mode; count = read.length } in
    let fit : FitsOutgoing f = record { frame = search rules; count = search rules } in (
      2 ∷ outgoing_field_octets f,
      tagged _ _ _ _ 2 (outgoing_field_octets f) c.if-tag-ne-OUTGOING.false octet c.in_ok-fields.ensures.fields,
      (c.if-before-ge-RECORD_LIMIT.false, f, fit, c.in-Some-mode_named.ensures.place, c.if-fields-last.true, refl),
    )
