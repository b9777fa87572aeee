use Rattle.std.proofs.Common.{◌≡◌, ◌+◌, ℕ, [], ◌∷◌, ◌++◌, Option, None, Some, take, sym, ap, ◌∙◌, subst, arith}
use Rattle.std.proofs.lemmas.List.{length_push}
use Rattle.dmr_record.specs.Received.{Follows, Receipt, ReceivedFields, fields_read, kind_octet, last_fields, last_read, receipt_of}
use Rattle.dmr_record.specs.Received.{received_fields}
use Rattle.dmr_record.specs.declared.received.Received.{Received}
use Rattle.dmr_text.proofs.Puts.{line_put, line_torn, line_well}
use Rattle.dmr_text.proofs.Receipts.{last_more, octets_behind_more, receipt_torn, receipt_written}
use Rattle.dmr_text.proofs.received.export_receipts.Goals as goal

-- the fields of a record that was read, with this count
abbrev fields : Received → ℕ → ReceivedFields
fields r count = record { frame = r.frame; slot = r.slot; kind = kind_octet r.kind; source = r.source; count = count }

pub returns-then-is_err-clause-output : goal.returns-then-is_err-clause-output
returns-then-is_err-clause-output g c =
    let inv = c.loop-received.invariant in
    let (receipts, counted, last, octet, written) = inv.so_far in
    let (below, is_slot, follows, whole, is_receipt, took) = rw c.in-Ok-Some.field-0-is at c.in-Ok-Some.ensures.receipt in
    let read = c.in-Ok-Some.received in
    let next : Receipt = receipt_of read (take read.length c.read_received.new.octets) in
    let alike : received_fields next ≡ fields_read read = ap (λ n. fields read n) whole in
    let later : Follows (last_fields None receipts) (received_fields next) =
    subst (λ (l : Option ReceivedFields). Follows l (received_fields next)) (sym last)
    (subst (λ (f : ReceivedFields). Follows (last_read c.loop-received.last) f) (sym alike) follows) in
    let same = c.as_slice.ensures.value ∙ c.make_received.ensures.line in (
      receipts ++ next ∷ [],
      receipt_torn receipts next _ _ _ _ _ _ written (is_receipt, is_slot) later took
          (line_torn c.put.result _ _ _ _ (sym c.is_err.ensures.value ∙ c.if-is_err.true) c.put.ensures.torn same),
    )

pub loop-received-preserved : goal.loop-received-preserved
loop-received-preserved g c =
    let inv = c.loop-received.invariant in
    let (receipts, counted, last, octet, written) = inv.so_far in
    let (below, is_slot, follows, whole, is_receipt, took) = rw c.in-Ok-Some.field-0-is at c.in-Ok-Some.ensures.receipt in
    let read = c.in-Ok-Some.received in
    let next : Receipt = receipt_of read (take read.length c.read_received.new.octets) in
    let alike : received_fields next ≡ fields_read read = ap (λ n. fields read n) whole in
    let later : Follows (last_fields None receipts) (received_fields next) =
    subst (λ (l : Option ReceivedFields). Follows l (received_fields next)) (sym last)
    (subst (λ (f : ReceivedFields). Follows (last_read c.loop-received.last) f) (sym alike) follows) in
    let same = c.as_slice.ensures.value ∙ c.make_received.ensures.line in
    let from = c.from.ensures in
    let short = is_receipt.octets in
    let more = length_push receipts next in
    let begins = octets_behind_more receipts next c.loop-received.octet octet in
    record {
      source = c.in-Ok-Some.ensures.well;
      sink = line_well c.put.result _ (sym c.is_err.ensures.value ∙ c.if-is_err.false) c.put.ensures.well;
      room = omega (arith, c.read_received.auto.octets, inv.room);
      few = omega (arith, below);
      far = omega (arith, inv.far, from, whole, short);
      so_far = (
        receipts ++ next ∷ [],
        omega (arith, more, counted),
        last_more None receipts next ∙ ap Some alike,
        ap (λ n. c.loop-received.octet + (12 + n)) (from ∙ sym whole) ∙ begins,
        receipt_written receipts next _ _ _ _ _ _ written (is_receipt, is_slot) later took
            (line_put c.put.result _ _ _ _ (sym c.is_err.ensures.value ∙ c.if-is_err.false) c.put.ensures.octets same),
      );
    }
