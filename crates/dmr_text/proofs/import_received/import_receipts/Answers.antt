use Rattle.std.proofs.Common.{◌≡◌, ◌+◌, ◌≤◌, inl, inr, ℕ, length, [], ◌∷◌, ◌++◌, take, Option, None, Some, ap, ◌∙◌, subst}
use Rattle.std.proofs.Common.{sym, refl, arith, append-nil, List}
use Rattle.std.proofs.lemmas.List.{length_push}
use Rattle.std.proofs.KnownBytes.{Appends-nil}
use Rattle.dmr_words.specs.Words.{line_words}
use Rattle.dmr_record.specs.Received.{Follows, Receipt, ReceivedFields, fields_read, kind_octet, last_fields, last_read}
use Rattle.dmr_record.specs.Received.{receipt_octets, receipt_of, received_fields, receipts_octets}
use Rattle.dmr_record.specs.declared.received.Received.{Received}
use Rattle.dmr_text.specs.Files.File.{Receipts}
use Rattle.dmr_text.specs.TextFaults.{ShowsReceiptLineFault}
use Rattle.dmr_text.proofs.Puts.{line_put, line_torn, line_well}
use Rattle.dmr_text.proofs.Receipts.{last_more, octets_more}
use Rattle.dmr_text.proofs.SaidReceipts.{names_receipt, receipts_untold, says_receipts}
use Rattle.dmr_text.proofs.Taken.{broken_behind, stopped_in_line, taken_more, taken_whole, torn_more}
use Rattle.dmr_text.proofs.import_received.import_receipts.Goals as goal

-- the fields of a record that was read, with this count
abbrev fields_of : Received → ℕ → ReceivedFields
fields_of r count = record { frame = r.frame; slot = r.slot; kind = kind_octet r.kind; source = r.source; count = count }

pub loop-fault-init : goal.loop-fault-init
loop-fault-init g c = record {
  source = c.requires.source;
  over = c.requires.over;
  sink = c.requires.sink;
  room = c.requires.room;
  few = omega arith;
  so_far = ([], refl, refl, receipts_untold c.args.lines.now _ _);
}

pub returns-in-Err-clause-fault : goal.returns-in-Err-clause-fault
returns-in-Err-clause-fault g c =
    let (receipts, counted, last, taken) = c.loop-fault.invariant.so_far in
    (receipts, inr (broken_behind _ (Receipts receipts) _ _ _ _ _ _ _ _ taken c.in-Err.ensures.broken))

pub returns-in-Err-receipt_line_said-clause-fault : goal.returns-in-Err-receipt_line_said-clause-fault
returns-in-Err-receipt_line_said-clause-fault g c =
    let (receipts, counted, last, taken) = c.loop-fault.invariant.so_far in
    let fault = c.in-Err-receipt_line_said.fault in
    let shown = rw c.in-Err-receipt_line_said.fault-is at c.in-Err-receipt_line_said.ensures.fault in (
      receipts,
      inl (stopped_in_line (Receipts receipts) _ _ c.tell_line.new.lines _ _ _ _ _ _ taken c.in_default.ensures.told _
          c.number-line.ensures.value
          (subst (λ (k : ℕ). ShowsReceiptLineFault k (last_fields None receipts) fault (line_words c.tell_line.new.lines.line))
          (sym counted)
          (subst (λ (f : Option ReceivedFields). ShowsReceiptLineFault c.loop-fault.count f fault
          (line_words c.tell_line.new.lines.line)) (sym last)
          (subst (λ (l : List ℕ). ShowsReceiptLineFault c.loop-fault.count (last_read c.loop-fault.last) fault (line_words l))
          c.line.ensures.value shown)))),
    )

pub returns-then-is_err-clause-torn : goal.returns-then-is_err-clause-torn
returns-then-is_err-clause-torn g c =
    let (receipts, counted, last, taken) = c.loop-fault.invariant.so_far in
    let (below, follows, whole, says, readable) = rw c.in-Ok-Receipt.field-0-is at c.in-Ok-Receipt.ensures.said in
    let read = c.in-Ok-Receipt.receipt in
    let next : Receipt = receipt_of read (take read.length c.receipt_line_said.new.room) in
    let few : length receipts + 1 ≤ 4194328 = omega (arith, counted, below) in
    let alike : received_fields next ≡ fields_read read = ap (λ n. fields_of read n) whole in
    let later : Follows (last_fields None receipts) (received_fields next) =
    subst (λ (l : Option ReceivedFields). Follows l (received_fields next)) (sym last)
    (subst (λ (f : ReceivedFields). Follows (last_read c.loop-fault.last) f) (sym alike) follows) in
    let same = ap (λ (k : ℕ). receipt_octets (receipt_of read (take k c.receipt_line_said.new.room))) c.from.ensures in (
      receipts ++ next ∷ [],
      torn_more (Receipts receipts) _ _ c.tell_line.new.lines _ _ _ _ _ _ taken c.in_default.ensures.told
          (Receipts (receipts ++ next ∷ []))
          _ _ (octets_more receipts next)
          (names_receipt receipts next _ (omega (arith, few)) readable later (rw c.line.ensures.value at says))
          (line_torn c.write_received.result _ _ _ _
          (sym c.is_err.ensures.value ∙ c.if-is_err.true) c.write_received.ensures.torn same),
    )

pub loop-fault-preserved : goal.loop-fault-preserved
loop-fault-preserved g c =
    let (receipts, counted, last, taken) = c.loop-fault.invariant.so_far in
    let (below, follows, whole, says, readable) = rw c.in-Ok-Receipt.field-0-is at c.in-Ok-Receipt.ensures.said in
    let read = c.in-Ok-Receipt.receipt in
    let next : Receipt = receipt_of read (take read.length c.receipt_line_said.new.room) in
    let few : length receipts + 1 ≤ 4194328 = omega (arith, counted, below) in
    let alike : received_fields next ≡ fields_read read = ap (λ n. fields_of read n) whole in
    let later : Follows (last_fields None receipts) (received_fields next) =
    subst (λ (l : Option ReceivedFields). Follows l (received_fields next)) (sym last)
    (subst (λ (f : ReceivedFields). Follows (last_read c.loop-fault.last) f) (sym alike) follows) in
    let same = ap (λ (k : ℕ). receipt_octets (receipt_of read (take k c.receipt_line_said.new.room))) c.from.ensures in
    let ok = sym c.is_err.ensures.value ∙ c.if-is_err.false in
    let more = length_push receipts next in
    record {
      source = c.in_default.ensures.well;
      over = c.tell_line.ensures.over;
      sink = line_well c.write_received.result _ ok c.write_received.ensures.well;
      room = c.receipt_line_said.auto.room ∙ c.loop-fault.invariant.room;
      few = omega (arith, below);
      so_far = (
        receipts ++ next ∷ [],
        omega (arith, more, counted),
        last_more None receipts next ∙ ap Some alike,
        taken_more (Receipts receipts) _ _ c.tell_line.new.lines _ _ _ _ _ _ taken c.in_default.ensures.told
            (Receipts (receipts ++ next ∷ [])) _ _ (octets_more receipts next)
            (names_receipt receipts next _ (omega (arith, few)) readable later (rw c.line.ensures.value at says))
            (line_put c.write_received.result _ _ _ _ ok c.write_received.ensures.receipt same),
      );
    }

pub returns-in-Ok-Last-clause-all : goal.returns-in-Ok-Last-clause-all
returns-in-Ok-Last-clause-all g c =
    let (receipts, counted, last, taken) = c.loop-fault.invariant.so_far in
    let is = rw c.in-Ok-Last.field-0-is at c.in-Ok-Last.ensures.said in (
      receipts,
      sym counted,
      taken_whole (Receipts receipts) _ _ c.tell_line.new.lines _ _ _ _ _ _ taken c.in_default.ensures.told (Receipts receipts) [] _
          (sym (append-nil (receipts_octets receipts)))
          (says_receipts receipts c.loop-fault.count _ counted (rw c.line.ensures.value at is))
          (Appends-nil _),
    )
