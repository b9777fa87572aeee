use Rattle.std.proofs.Common.{rules, arith, ◌++◌, inl, inr, ◌∷◌, ◌≡◌, length, refl}
use Rattle.std.proofs.lemmas.Result.{err_from_is_err_and}
use Rattle.std.proofs.KnownBytes.{Consumes-trans}
use Rattle.dmr_record.specs.Received.{kind_octet, received_field_octets, fields_read, IsSlotAndKind}
use Rattle.dmr_record.proofs.Pieces.{tagged, Consumes-spelled}
use Rattle.dmr_record.proofs.ReceivedLemmas.{kind_octet-low, ShowsReceivedFault-part}
use Rattle.dmr_record.proofs.received.read_received.Goals as goal

pub returns-in_err-fill_whole-clause-fault : goal.returns-in_err-fill_whole-clause-fault
returns-in_err-fill_whole-clause-fault g c =
    let p = err_from_is_err_and c.from_residual-in_err-fill_whole.result c.from_residual-in_err-fill_whole.ensures.1 in
    let octet = rw c.in-Some.is at c.in_ok-tag.ensures.octet in
    let (part, fewer, took) = c.in_err-fill_whole.ensures.part in
    rw (p.1, p.2) (
      3 ∷ part,
      tagged _ _ _ _ 3 part c.if-tag-ne-RECEIVED.false octet took,
      ShowsReceivedFault-part _ _ _ _ (3 ∷ part) c.if-before-ge-RECEIVED_LIMIT.false (λ e. (cc)) c.in_err-fill_whole.ensures.cause
          (inr (inl (part, fewer, refl))),
    )

pub returns-in_default-received_of-clause-fault : goal.returns-in_default-received_of-clause-fault
returns-in_default-received_of-clause-fault g c =
    let octet = rw c.in-Some.is at c.in_ok-tag.ensures.octet in
    let eleven : length c.fill_whole.new.buffer ≡ 11 = search rules in
    let (f, fit, misses, spelled) = c.in_default-received_of.ensures.none in
    let octets = c.in_ok-fill_whole.ensures.octets in
    let took = Consumes-spelled _ _ 11 c.fill_whole.new.buffer (received_field_octets f) eleven spelled octets in (
      3 ∷ received_field_octets f,
      tagged _ _ _ _ 3 (received_field_octets f) c.if-tag-ne-RECEIVED.false octet took,
      (c.if-before-ge-RECEIVED_LIMIT.false, inr (f, fit, misses, refl)),
    )

pub returns-then-not-follows-clause-fault : goal.returns-then-not-follows-clause-fault
returns-then-not-follows-clause-fault g c =
    let octet = rw c.in-Some.is at c.in_ok-tag.ensures.octet in
    let eleven : length c.fill_whole.new.buffer ≡ 11 = search rules in
    let read = c.in-Some-received_of.received in
    let f = fields_read read in
    let took = Consumes-spelled _ _ 11 c.fill_whole.new.buffer (received_field_octets f) eleven c.in-Some-received_of.ensures.fields
    c.in_ok-fill_whole.ensures.octets in (
      3 ∷ received_field_octets f,
      tagged _ _ _ _ 3 (received_field_octets f) c.if-tag-ne-RECEIVED.false octet took,
      (
        c.if-before-ge-RECEIVED_LIMIT.false,
        f,
        c.in-Some-received_of.ensures.fit,
        (c.in-Some-received_of.ensures.slot, kind_octet-low read.kind),
        (λ h. let told = c.if-not-follows.ensures.value.1 h in cc),
        refl,
      ),
    )

pub returns-in_err-fill_whole-2-clause-fault : goal.returns-in_err-fill_whole-2-clause-fault
returns-in_err-fill_whole-2-clause-fault g c =
    let p = err_from_is_err_and c.from_residual-in_err-fill_whole-2.result c.from_residual-in_err-fill_whole-2.ensures.1 in
    let octet = rw c.in-Some.is at c.in_ok-tag.ensures.octet in
    let eleven : length c.fill_whole.new.buffer ≡ 11 = search rules in
    let read = c.in-Some-received_of.received in
    let f = fields_read read in
    let took = Consumes-spelled _ _ 11 c.fill_whole.new.buffer (received_field_octets f) eleven c.in-Some-received_of.ensures.fields
    c.in_ok-fill_whole.ensures.octets in
    let front = tagged _ _ _ _ 3 (received_field_octets f) c.if-tag-ne-RECEIVED.false octet took in
    let (part, fewer, more) = c.in_err-fill_whole-2.ensures.part in
    let place : IsSlotAndKind read.slot (kind_octet read.kind) = (c.in-Some-received_of.ensures.slot, kind_octet-low read.kind) in
    rw (p.1, p.2) (
      3 ∷ (received_field_octets f ++ part),
      Consumes-trans _ _ _ (3 ∷ received_field_octets f) part front more,
      ShowsReceivedFault-part _ _ _ _ (3 ∷ (received_field_octets f ++ part)) c.if-before-ge-RECEIVED_LIMIT.false (λ e. (cc))
          c.in_err-fill_whole-2.ensures.cause
          (inr (inr (f, part, c.in-Some-received_of.ensures.fit, place, c.if-not-follows.ensures.value.0 refl, omega arith, refl))),
    )
