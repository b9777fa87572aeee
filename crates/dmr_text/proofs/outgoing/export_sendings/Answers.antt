use Rattle.std.proofs.Common.{◌≤◌, ◌+◌, [], ◌∷◌, ◌++◌, take, sym, ap, ◌∙◌, arith}
use Rattle.std.proofs.lemmas.List.{length_push}
use Rattle.dmr_record.specs.Outgoing.{Sending, last_frame, whole_sending}
use Rattle.dmr_text.proofs.Puts.{line_put, line_torn, line_well}
use Rattle.dmr_text.proofs.Sendings.{last_more, octets_behind_more, sending_torn, sending_written}
use Rattle.dmr_text.proofs.outgoing.export_sendings.Goals as goal

pub returns-then-is_err-clause-output : goal.returns-then-is_err-clause-output
returns-then-is_err-clause-output g c =
    let inv = c.loop-record.invariant in
    let (sendings, counted, frame, octet, written) = inv.so_far in
    let (below, behind, whole, is_sending, took) = rw c.in-Ok-Some.field-0-is at c.in-Ok-Some.ensures.sending in
    let read = c.in-Ok-Some.record in
    let next : Sending = whole_sending read (take read.length c.read_whole_outgoing.new.octets) in
    let later : last_frame 0 sendings ≤ next.frame = omega (arith, frame, behind) in
    let same = c.as_slice.ensures.value ∙ c.make_outgoing.ensures.line in (
      sendings ++ next ∷ [],
      sending_torn sendings next _ _ _ _ _ _ written is_sending later took
          (line_torn c.put.result _ _ _ _ (sym c.is_err.ensures.value ∙ c.if-is_err.true) c.put.ensures.torn same),
    )

pub loop-record-preserved : goal.loop-record-preserved
loop-record-preserved g c =
    let inv = c.loop-record.invariant in
    let (sendings, counted, frame, octet, written) = inv.so_far in
    let (below, behind, whole, is_sending, took) = rw c.in-Ok-Some.field-0-is at c.in-Ok-Some.ensures.sending in
    let read = c.in-Ok-Some.record in
    let next : Sending = whole_sending read (take read.length c.read_whole_outgoing.new.octets) in
    let later : last_frame 0 sendings ≤ next.frame = omega (arith, frame, behind) in
    let same = c.as_slice.ensures.value ∙ c.make_outgoing.ensures.line in
    let from = c.from.ensures in
    let short = is_sending.datagram in
    let more = length_push sendings next in
    let begins = octets_behind_more sendings next c.loop-record.octet octet in
    record {
      source = c.in-Ok-Some.ensures.well;
      sink = line_well c.put.result _ (sym c.is_err.ensures.value ∙ c.if-is_err.false) c.put.ensures.well;
      room = omega (arith, c.read_whole_outgoing.auto.octets, inv.room);
      few = omega (arith, below);
      far = omega (arith, inv.far, from, whole, short);
      so_far = (
        sendings ++ next ∷ [],
        omega (arith, more, counted),
        last_more 0 sendings next,
        ap (λ n. c.loop-record.octet + (9 + n)) (from ∙ sym whole) ∙ begins,
        sending_written sendings next _ _ _ _ _ _ written is_sending later took
            (line_put c.put.result _ _ _ _ (sym c.is_err.ensures.value ∙ c.if-is_err.false) c.put.ensures.octets same),
      );
    }
