use Rattle.std.proofs.Common.{◌≡◌, ◌+◌, ℕ, [], ◌∷◌, ◌++◌, Option, None, Some, length, take, refl, inr, sym, ap, ◌∙◌}
use Rattle.std.proofs.Common.{subst, arith}
use Rattle.std.proofs.lemmas.List.{length_push}
use Rattle.std.specs.Io.KnownBytes.{Appends}
use Rattle.std.specs.List.{AllByRecursion, flat_map}
use Rattle.dmr_record.specs.Devices.{Tears}
use Rattle.dmr_record.specs.Received.{Follows, Receipt, ReceivedFields, fields_read, kind_octet, last_fields, last_read, receipt_of}
use Rattle.dmr_record.specs.Received.{received_fields}
use Rattle.dmr_record.specs.declared.received.Received.{Received}
use Rattle.dmr_capture.specs.Written.{IsWritable, packet_record}
use Rattle.dmr_datagrams.specs.Exports.{AreExported}
use Rattle.dmr_datagrams.specs.Packets.{IsLate, exported_packets}
use Rattle.dmr_datagrams.proofs.Exported.{count_more, exported_more, exported_torn, head_torn, last_more, octet_more, one_packet}
use Rattle.dmr_datagrams.proofs.Puts.{failed_holds}
use Rattle.dmr_datagrams.proofs.export.export_list.Goals as goal

-- the fields of a record that was read, with this count
abbrev fields : Received → ℕ → ReceivedFields
fields r count = record { frame = r.frame; slot = r.slot; kind = kind_octet r.kind; source = r.source; count = count }

pub returns-then-is_err-clause-torn : goal.returns-then-is_err-clause-torn
returns-then-is_err-clause-torn g c =
    head_torn c.args.settings _ _ _ _ c.in_default.ensures.head
    (failed_holds c.write_capture_head.result _ (sym c.is_err.ensures.value ∙ c.if-is_err.true) c.write_capture_head.ensures.torn)

pub returns-in-Err-Late-clause-fault : goal.returns-in-Err-Late-clause-fault
returns-in-Err-Late-clause-fault g c =
    let (receipts, counted, last, octet, written, so_far) = c.loop-received.invariant.so_far in
    let (below, is_slot, follows, whole, is_receipt, took) = rw c.in-Ok-Some.field-0-is at c.in-Ok-Some.ensures.receipt in
    let read = c.in-Ok-Some.received in
    let next : Receipt = receipt_of read (take read.length c.read_received.new.octets) in
    let alike : received_fields next ≡ fields_read read = ap (λ n. fields read n) whole in
    let later : Follows (last_fields None receipts) (received_fields next) =
    subst (λ (l : Option ReceivedFields). Follows l (received_fields next)) (sym last)
    (subst (λ (f : ReceivedFields). Follows (last_read c.loop-received.last) f) (sym alike) follows) in
    let kept = rw c.in-Err-Late.field-0-is at c.in-Err-Late.ensures.kept in
    let late : IsLate c.args.settings next =
    subst (λ n. IsLate c.args.settings (receipt_of read (take n c.read_received.new.octets))) c.from.ensures
    (rw c.in-Err-Late.field-0-is at c.in-Err-Late.ensures.late) in
    rw c.fault_at-in-Err-Late.ensures.stop (
      refl,
      inr (inr (record {
        list = receipts;
        left_mid = g.S.Source.left c.loop-received.source;
        each = subst (λ s. AreExported c.args.settings receipts (g.S.Source.left c.args.source.now)
            (g.S.Source.left c.loop-received.source) (g.K.Sink.held c.args.sink.now) (g.K.Sink.held s)) (sym kept) so_far;
        late = next;
        readable = (is_receipt, is_slot);
        follows = later;
        read = took;
        shown = late;
        long = refl;
        octet = octet;
      })),
    )

pub returns-in-Err-Torn-clause-torn : goal.returns-in-Err-Torn-clause-torn
returns-in-Err-Torn-clause-torn g c =
    let (receipts, counted, last, octet, written, so_far) = c.loop-received.invariant.so_far in
    let (below, is_slot, follows, whole, is_receipt, took) = rw c.in-Ok-Some.field-0-is at c.in-Ok-Some.ensures.receipt in
    let read = c.in-Ok-Some.received in
    let next : Receipt = receipt_of read (take read.length c.read_received.new.octets) in
    let alike : received_fields next ≡ fields_read read = ap (λ n. fields read n) whole in
    let later : Follows (last_fields None receipts) (received_fields next) =
    subst (λ (l : Option ReceivedFields). Follows l (received_fields next)) (sym last)
    (subst (λ (f : ReceivedFields). Follows (last_read c.loop-received.last) f) (sym alike) follows) in
    exported_torn c.args.settings receipts next _ _ _ _ _ _ so_far (is_receipt, is_slot) later took
    (subst (λ n. Tears (g.K.Sink.held c.loop-received.sink) (g.K.Sink.held c.export_record.new.sink)
    (flat_map packet_record (exported_packets c.args.settings (receipt_of read (take n c.read_received.new.octets)))))
    c.from.ensures
    (rw c.in-Err-Torn.field-0-is at c.in-Err-Torn.ensures.torn))

pub loop-received-preserved : goal.loop-received-preserved
loop-received-preserved g c =
    let inv = c.loop-received.invariant in
    let (receipts, counted, last, octet, written, so_far) = inv.so_far in
    let (below, is_slot, follows, whole, is_receipt, took) = rw c.in-Ok-Some.field-0-is at c.in-Ok-Some.ensures.receipt in
    let read = c.in-Ok-Some.received in
    let next : Receipt = receipt_of read (take read.length c.read_received.new.octets) in
    let alike : received_fields next ≡ fields_read read = ap (λ n. fields read n) whole in
    let later : Follows (last_fields None receipts) (received_fields next) =
    subst (λ (l : Option ReceivedFields). Follows l (received_fields next)) (sym last)
    (subst (λ (f : ReceivedFields). Follows (last_read c.loop-received.last) f) (sym alike) follows) in
    let of_length : ℕ → Receipt = λ n. receipt_of read (take n c.read_received.new.octets) in
    let count = subst (λ n. c.in-Ok.count
    ≡ length (exported_packets c.args.settings (of_length n))) c.from.ensures c.in-Ok.ensures.count in
    let fit = subst (λ n. AllByRecursion IsWritable (exported_packets c.args.settings (of_length n))) c.from.ensures
    c.in-Ok.ensures.fit in
    let put = subst (λ n. Appends (g.K.Sink.held c.loop-received.sink) (g.K.Sink.held c.export_record.new.sink)
    (flat_map packet_record (exported_packets c.args.settings (of_length n)))) c.from.ensures c.in-Ok.ensures.packets in
    let more = length_push receipts next in
    let from = c.from-in-loop-received.ensures in
    let short = is_receipt.octets in
    let one = one_packet c.args.settings next in
    record {
      source = c.in-Ok-Some.ensures.well;
      sink = c.in-Ok.ensures.well;
      room = omega (arith, c.read_received.auto.octets, inv.room);
      few = omega (arith, below);
      some = omega (arith, inv.some, count, one);
      far = omega (arith, inv.far, from, whole, short);
      so_far = (
        receipts ++ next ∷ [],
        omega (arith, more, counted),
        last_more None receipts next ∙ ap Some alike,
        ap (λ n. c.loop-received.octet + (12 + n)) (from ∙ sym whole) ∙ octet_more receipts next c.loop-received.octet octet,
        count_more c.args.settings receipts next _ _ written count,
        exported_more c.args.settings receipts next _ _ _ _ _ _ so_far (is_receipt, is_slot) later took fit put,
      );
    }
