use Rattle.std.proofs.Common.{rules, ◌+◌, [], ◌∷◌, ◌++◌, refl, sym, ap, ◌∙◌, subst, arith}
use Rattle.std.proofs.lemmas.List.{length_push}
use Rattle.dmr_record.specs.Head.{record_limit}
use Rattle.dmr_record.specs.Outgoing.{Sending, ShowsOutgoingFault, last_frame, sending_octets, sending_of}
use Rattle.dmr_listing.proofs.OutgoingListings.{last_more, outgoing_more, outgoing_octets_more, outgoing_part}
use Rattle.dmr_listing.proofs.outgoing_listing.list_outgoing.Goals as goal

pub returns-then-is_err-clause-output : goal.returns-then-is_err-clause-output
returns-then-is_err-clause-output g c =
    let (sendings, counted, frame, octet, listed) = c.loop-record.invariant.so_far in
    let (below, behind, whole) = rw c.in-Ok-Some.field-0-is at c.in-Ok-Some.ensures.sending in
    let (datagram, keeps, is_sending, took) = whole in
    let next : Sending = sending_of c.in-Ok-Some.record datagram in
    record {
      sendings = sendings;
      next = next;
      read = outgoing_part sendings (sending_octets next) _ _ _ listed.read took;
      between = c.loop-record.lines;
      given = listed.given;
      refused = c.in-Ok-Some.record;
      same = record { fields = refl; keeps = keeps };
      last = search rules;
    }

pub loop-record-preserved : goal.loop-record-preserved
loop-record-preserved g c =
    let inv = c.loop-record.invariant in
    let (sendings, counted, frame, octet, listed) = inv.so_far in
    let (below, behind, whole) = rw c.in-Ok-Some.field-0-is at c.in-Ok-Some.ensures.sending in
    let (datagram, keeps, is_sending, took) = whole in
    let read = c.in-Ok-Some.record in
    let next : Sending = sending_of read datagram in
    let long = keeps.count in
    let short = is_sending.datagram in
    let from = c.from.ensures in
    let more = length_push sendings next in
    let begins = outgoing_octets_more sendings next c.loop-record.octet octet in
    record {
      source = c.in-Ok-Some.ensures.well;
      lines = search rules;
      kept = c.put.ensures.kept ∙ inv.kept;
      few = omega (arith, below);
      room = omega (arith, inv.room, from, long, short);
      so_far = (
        sendings ++ next ∷ [],
        omega (arith, more, counted),
        last_more 0 sendings next,
        ap (λ n. c.loop-record.octet + (9 + n)) (from ∙ long) ∙ begins,
        outgoing_more g.L.Taker.Takes sendings datagram read _ _ _ _ _ _ listed keeps is_sending
            (omega (arith, frame, behind)) took (search rules),
      );
    }

pub returns-in-Ok-None-clause-all : goal.returns-in-Ok-None-clause-all
returns-in-Ok-None-clause-all g c =
    let (sendings, counted, frame, octet, listed) = c.loop-record.invariant.so_far in
    let (took, ended) = rw c.in-Ok-None.field-0-is at c.in-Ok-None.ensures.end in
    (sendings, record { read = outgoing_part sendings [] _ _ _ listed.read took; given = listed.given }, sym counted)

pub returns-in-Err-clause-fault : goal.returns-in-Err-clause-fault
returns-in-Err-clause-fault g c =
    let (sendings, counted, frame, octet, listed) = c.loop-record.invariant.so_far in
    let (taken, took, shown) = c.in-Err.ensures.fault in
    let fault = c.in-Err.fault in
    record {
      sendings = sendings;
      read = record {
        part = taken;
        before = outgoing_part sendings taken _ _ _ listed.read took;
        shown = subst (λ n. ShowsOutgoingFault record_limit n (last_frame 0 sendings) fault taken) (sym counted)
            (subst (λ n. ShowsOutgoingFault record_limit c.loop-record.count n fault taken) (sym frame) shown);
        octet = octet;
        place = refl;
      };
      given = listed.given;
    }
