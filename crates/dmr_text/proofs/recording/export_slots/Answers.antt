use Rattle.std.proofs.Common.{◌+◌, [], ◌∷◌, ◌++◌, None, Some, ap, ◌∙◌, sym, arith}
use Rattle.std.proofs.lemmas.List.{length_push}
use Rattle.dmr_recording.proofs.Spelled.{octets_more}
use Rattle.dmr_recording.specs.Places.{place_by_number}
use Rattle.dmr_text.specs.Spelling.{burst_line}
use Rattle.dmr_text.proofs.Puts.{line_put, line_torn, line_well}
use Rattle.dmr_text.proofs.Slots.{burst_torn, burst_written, silence_written}
use Rattle.dmr_text.proofs.recording.export_slots.Goals as goal

pub loop-slot-preserved-in-None : goal.loop-slot-preserved-in-None
loop-slot-preserved-in-None g c =
    let inv = c.loop-slot.invariant in
    let (slots, counted, octet, written) = inv.so_far in
    let (below, is_slot, read) = rw c.in-Ok-Slot.field-0-is at c.in-Ok-Slot.ensures.slot in
    let silence = rw c.in-None.is at read in
    let long = rw c.in-None.is at c.record_octets-octet.ensures.octets in
    let short = c.record_octets-octet.ensures.few in
    let more = length_push slots None in
    record {
      source = c.in-Ok-Slot.ensures.well;
      sink = inv.sink;
      few = omega (arith, below);
      room = omega (arith, inv.room, short);
      so_far = (
        slots ++ None ∷ [],
        omega (arith, more, counted),
        ap (λ n. c.loop-slot.octet + n) long ∙ octets_more c.args.recording slots None c.loop-slot.octet octet,
        silence_written c.args.recording slots _ _ _ _ _ written silence,
      );
    }

pub returns-then-is_err-clause-output : goal.returns-then-is_err-clause-output
returns-then-is_err-clause-output g c =
    let (slots, counted, octet, written) = c.loop-slot.invariant.so_far in
    let (below, is_slot, read) = rw c.in-Ok-Slot.field-0-is at c.in-Ok-Slot.ensures.slot in
    let spelled = rw c.in-Some.is at read in
    let is_burst = rw c.in-Some.is at is_slot in
    let stands = c.of_slot-place.ensures.value ∙ ap place_by_number (sym counted) in
    let same = c.as_slice.ensures.value ∙ c.make_burst.ensures.line ∙ ap (λ p. burst_line p c.in-Some.burst) stands in (
      slots ++ Some c.in-Some.burst ∷ [],
      burst_torn c.args.recording slots c.in-Some.burst _ _ _ _ _ _ written is_burst spelled
          (line_torn c.put.result _ _ _ _ (sym c.is_err.ensures.value ∙ c.if-is_err.true) c.put.ensures.torn same),
    )

pub loop-slot-preserved : goal.loop-slot-preserved
loop-slot-preserved g c =
    let inv = c.loop-slot.invariant in
    let (slots, counted, octet, written) = inv.so_far in
    let (below, is_slot, read) = rw c.in-Ok-Slot.field-0-is at c.in-Ok-Slot.ensures.slot in
    let spelled = rw c.in-Some.is at read in
    let is_burst = rw c.in-Some.is at is_slot in
    let long = rw c.in-Some.is at c.record_octets-octet.ensures.octets in
    let short = c.record_octets-octet.ensures.few in
    let more = length_push slots (Some c.in-Some.burst) in
    let stands = c.of_slot-place.ensures.value ∙ ap place_by_number (sym counted) in
    let same = c.as_slice.ensures.value ∙ c.make_burst.ensures.line ∙ ap (λ p. burst_line p c.in-Some.burst) stands in
    record {
      source = c.in-Ok-Slot.ensures.well;
      sink = line_well c.put.result _ (sym c.is_err.ensures.value ∙ c.if-is_err.false) c.put.ensures.well;
      few = omega (arith, below);
      room = omega (arith, inv.room, short);
      so_far = (
        slots ++ Some c.in-Some.burst ∷ [],
        omega (arith, more, counted),
        ap (λ n. c.loop-slot.octet + n) long ∙ octets_more c.args.recording slots (Some c.in-Some.burst) c.loop-slot.octet octet,
        burst_written c.args.recording slots c.in-Some.burst _ _ _ _ _ _ written is_burst spelled
            (line_put c.put.result _ _ _ _ (sym c.is_err.ensures.value ∙ c.if-is_err.false) c.put.ensures.octets same),
      );
    }
