use Rattle.std.proofs.Common.{rules, ◌≡◌, ◌+◌, ℕ, [], ◌∷◌, ◌++◌, Option, None, Some, take, refl, sym, ap, ◌∙◌, subst, arith}
use Rattle.std.proofs.lemmas.List.{length_push}
use Rattle.dmr_record.specs.Received.{ReceivedFields, Follows, Receipt, received_fields, fields_read, kind_octet, last_read}
use Rattle.dmr_record.specs.Received.{ShowsReceivedFault, receipt_octets, receipt_of, received_limit}
use Rattle.dmr_record.specs.declared.received.Received.{Received}
use Rattle.dmr_record.specs.Received.{last_fields}
use Rattle.dmr_listing.proofs.ReceivedListings.{last_more, received_more, received_octets_more, received_part}
use Rattle.dmr_listing.proofs.received_listing.list_received.Goals as goal

-- the fields of a record that was read, with this count
abbrev fields : Received → ℕ → ReceivedFields
fields r count = record { frame = r.frame; slot = r.slot; kind = kind_octet r.kind; source = r.source; count = count }

pub returns-then-is_err-clause-output : goal.returns-then-is_err-clause-output
returns-then-is_err-clause-output g c =
    let (receipts, counted, last, octet, listed) = c.loop-received.invariant.so_far in
    let (below, is_slot, follows, whole, is_receipt, took) = rw c.in-Ok-Some.field-0-is at c.in-Ok-Some.ensures.receipt in
    let read = c.in-Ok-Some.received in
    let next : Receipt = receipt_of read (take read.length c.read_received.new.octets) in
    record {
      receipts = receipts;
      next = next;
      read = received_part receipts (receipt_octets next) _ _ _ listed.read took;
      given = record { between = c.loop-received.lines; taken = listed.given; last = search rules };
    }

pub loop-received-preserved : goal.loop-received-preserved
loop-received-preserved g c =
    let inv = c.loop-received.invariant in
    let (receipts, counted, last, octet, listed) = inv.so_far in
    let (below, is_slot, follows, whole, is_receipt, took) = rw c.in-Ok-Some.field-0-is at c.in-Ok-Some.ensures.receipt in
    let read = c.in-Ok-Some.received in
    let octets = take read.length c.read_received.new.octets in
    let next : Receipt = receipt_of read octets in
    let same : received_fields next ≡ fields_read read = ap (λ n. fields read n) whole in
    let behind : Follows (last_fields None receipts) (received_fields next) =
    subst (λ (l : Option ReceivedFields). Follows l (received_fields next)) (sym last)
    (subst (λ (f : ReceivedFields). Follows (last_read c.loop-received.last) f) (sym same) follows) in
    let from = c.from.ensures in
    let short = is_receipt.octets in
    let more = length_push receipts next in
    let begins = received_octets_more receipts next c.loop-received.octet octet in
    record {
      source = c.in-Ok-Some.ensures.well;
      lines = search rules;
      kept = c.put.ensures.kept ∙ inv.kept;
      long = search rules;
      few = omega (arith, below);
      room = omega (arith, inv.room, from, whole, short);
      so_far = (
        receipts ++ next ∷ [],
        omega (arith, more, counted),
        last_more None receipts next ∙ ap Some same,
        ap (λ n. c.loop-received.octet + (12 + n)) (from ∙ sym whole) ∙ begins,
        received_more g.L.Taker.Takes receipts next _ _ _ _ _ _ listed (is_receipt, is_slot) behind took (search rules),
      );
    }

pub returns-in-Ok-None-clause-all : goal.returns-in-Ok-None-clause-all
returns-in-Ok-None-clause-all g c =
    let (receipts, counted, last, octet, listed) = c.loop-received.invariant.so_far in
    let (took, ended) = rw c.in-Ok-None.field-0-is at c.in-Ok-None.ensures.end in
    (receipts, record { read = received_part receipts [] _ _ _ listed.read took; given = listed.given }, sym counted)

pub returns-in-Err-clause-fault : goal.returns-in-Err-clause-fault
returns-in-Err-clause-fault g c =
    let (receipts, counted, last, octet, listed) = c.loop-received.invariant.so_far in
    let (taken, took, shown) = c.in-Err.ensures.fault in
    let fault = c.in-Err.fault in
    record {
      receipts = receipts;
      read = record {
        part = taken;
        before = received_part receipts taken _ _ _ listed.read took;
        shown = subst (λ n. ShowsReceivedFault received_limit n (last_fields None receipts) fault taken) (sym counted)
            (subst (λ l. ShowsReceivedFault received_limit c.loop-received.count l fault taken) (sym last) shown);
        octet = octet;
        place = refl;
      };
      given = listed.given;
    }
