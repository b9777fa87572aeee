use Rattle.std.proofs.Common.{rules, ◌+◌, [], ◌∷◌, ◌++◌, length, Some, sym, ap, ◌∙◌, subst, arith}
use Rattle.std.proofs.lemmas.List.{length_push}
use Rattle.dmr_recording.specs.Places.{place_by_number}
use Rattle.dmr_listing.specs.ListingRules.{ListingTurn}
use Rattle.dmr_recording.specs.Recordings.{ShowsSlotFaultOf}
use Rattle.dmr_listing.proofs.Drawing.{IsDrawn}
use Rattle.dmr_listing.proofs.Drawing.{drawn_given, drawn_none, drawn_part, drawn_pushed, full_up_to_strip, stripped}
use Rattle.dmr_listing.proofs.Drawing.{stripped_up_to_strip, turn_later}
use Rattle.dmr_recording.proofs.Spelled.{octets_more}
use Rattle.dmr_listing.proofs.strips.strip_recording.Goals as goal

pub loop-slot-init : goal.loop-slot-init
loop-slot-init g c = record {
  source = search rules;
  lines = search rules;
  kept = search rules;
  few = search rules;
  room = search rules;
  free = omega (arith, ap length c.new-strip.ensures.none);
  so_far = (
    [],
    search rules,
    search rules,
    subst (λ (t : ListingTurn). IsDrawn g.L.Taker.Takes c.args.recording c.args.frames [] [] t
        (g.S.Source.left c.args.source.now) (g.S.Source.left c.args.source.now) c.new-strip.result c.args.lines.now
        c.args.lines.now) (sym c.new-view.ensures.value)
        (drawn_none g.L.Taker.Takes c.args.recording c.args.frames _ c.new-strip.result _ c.new-strip.ensures.none),
  );
}

pub returns-then-is_err-clause-output : goal.returns-then-is_err-clause-output
returns-then-is_err-clause-output g c =
    let (slots, counted, octet, drawn) = c.loop-slot.invariant.so_far in
    let (even, read, at_end) = rw c.in-Ok-End.field-0-is at c.in-Ok-End.ensures.end in
    stripped_up_to_strip g.L.Taker.Takes g.L.Taker.Refuses c.args.recording c.args.frames slots [] c.loop-slot.view
    _ _ c.loop-slot.strip _ _ _
    (drawn_part g.L.Taker.Takes c.args.recording c.args.frames slots [] c.loop-slot.view _ _ _ c.loop-slot.strip _ _
    drawn read)
    (search rules) (search rules)

pub returns-in-Ok-End-clause-all : goal.returns-in-Ok-End-clause-all
returns-in-Ok-End-clause-all g c =
    let (slots, counted, octet, drawn) = c.loop-slot.invariant.so_far in
    let (even, read, at_end) = rw c.in-Ok-End.field-0-is at c.in-Ok-End.ensures.end in
    let before = c.slots.ensures.value in
    let after = c.slots-frames.ensures.value in (
      slots,
      c.loop-slot.view,
      stripped g.L.Taker.Takes c.args.recording c.args.frames slots [] c.loop-slot.view _ _ c.loop-slot.strip _ _ _
          (drawn_part g.L.Taker.Takes c.args.recording c.args.frames slots [] c.loop-slot.view _ _ _ c.loop-slot.strip _
          _ drawn read)
          (search rules),
      omega (arith, even, before, after, counted),
      c.bursts-bursts.ensures.value,
    )

pub returns-then-is_err-2-clause-output : goal.returns-then-is_err-2-clause-output
returns-then-is_err-2-clause-output g c =
    let (slots, counted, octet, drawn) = c.loop-slot.invariant.so_far in
    let (taken, read, fault) = c.in-Err.ensures.fault in
    stripped_up_to_strip g.L.Taker.Takes g.L.Taker.Refuses c.args.recording c.args.frames slots taken
    c.loop-slot.view _ _ c.loop-slot.strip _ _ _
    (drawn_part g.L.Taker.Takes c.args.recording c.args.frames slots taken c.loop-slot.view _ _ _ c.loop-slot.strip _ _
    drawn read)
    (search rules) (search rules)

pub returns-in-Err-clause-fault : goal.returns-in-Err-clause-fault
returns-in-Err-clause-fault g c =
    let (slots, counted, octet, drawn) = c.loop-slot.invariant.so_far in
    let (taken, read, fault) = c.in-Err.ensures.fault in
    let before = c.slots.ensures.value in
    let after = c.slots-in-Err.ensures.value in
    let all = stripped g.L.Taker.Takes c.args.recording c.args.frames slots taken c.loop-slot.view _ _ c.loop-slot.strip _ _ _
    (drawn_part g.L.Taker.Takes c.args.recording c.args.frames slots taken c.loop-slot.view _ _ _ c.loop-slot.strip _ _ drawn
    read) (search rules) in
    record {
      slots = slots;
      lines = all.lines;
      read = record {
        part = taken;
        end = c.loop-slot.view;
        before = all.read;
        shown = subst (λ n. ShowsSlotFaultOf c.args.recording n c.in-Err.fault taken) (before ∙ sym counted) fault;
        octet = octet;
        place = ap Some (c.of_slot.ensures.value ∙ ap place_by_number (after ∙ sym counted));
      };
      strips = all.strips;
      drawn = all.drawn;
      given = all.given;
    }

pub returns-then-is_err-3-clause-output : goal.returns-then-is_err-3-clause-output
returns-then-is_err-3-clause-output g c =
    let (slots, counted, octet, drawn) = c.loop-slot.invariant.so_far in
    let (below, is_slot, read) = rw c.in-Ok-Slot.field-0-is at c.in-Ok-Slot.ensures.slot in
    let at = c.of_slot-place.ensures.value ∙ ap place_by_number c.slots-in-loop-slot.ensures.value in
    full_up_to_strip g.L.Taker.Takes g.L.Taker.Refuses c.args.recording c.args.frames (slots ++ c.in-Ok-Slot.slot ∷
    []) c.mark-mark.new.self _ _ _
    c.add.new.strip _ _ _
    (drawn_pushed g.L.Taker.Takes c.args.recording c.args.frames slots c.loop-slot.view c.in-Ok-Slot.slot c.mark-mark.result
    c.mark-mark.new.self c.of_slot-place.result _ _ _ c.loop-slot.strip _ _ drawn c.loop-slot.invariant.free is_slot read
    c.mark-mark.ensures.mark at) (search rules)

pub loop-slot-preserved : goal.loop-slot-preserved
loop-slot-preserved g c =
    let inv = c.loop-slot.invariant in
    let (slots, counted, octet, drawn) = inv.so_far in
    let (below, is_slot, read) = rw c.in-Ok-Slot.field-0-is at c.in-Ok-Slot.ensures.slot in
    let slot = c.in-Ok-Slot.slot in
    let long = c.record_octets-octet.ensures.octets in
    let short = c.record_octets-octet.ensures.few in
    let before = c.slots.ensures.value in
    let later = turn_later c.loop-slot.view slot c.mark-mark.result c.mark-mark.new.self c.mark-mark.ensures.mark in
    let at = c.of_slot-place.ensures.value ∙ ap place_by_number c.slots-in-loop-slot.ensures.value in
    let more = length_push slots slot in
    let next = octets_more c.args.recording slots slot c.loop-slot.octet octet in
    record {
      source = c.in-Ok-Slot.ensures.well;
      lines = search rules;
      kept = c.add.ensures.kept ∙ inv.kept;
      few = omega (arith, below, before, later);
      room = omega (arith, inv.room, short, later);
      free = search rules;
      so_far = (
        slots ++ slot ∷ [],
        omega (arith, more, counted, later),
        ap (λ n. c.loop-slot.octet + n) long ∙ next,
        drawn_given g.L.Taker.Takes c.args.recording c.args.frames (slots ++ slot ∷ []) c.mark-mark.new.self _ _ _
            c.add.new.strip _ _ _
            (drawn_pushed g.L.Taker.Takes c.args.recording c.args.frames slots c.loop-slot.view slot c.mark-mark.result
            c.mark-mark.new.self
            c.of_slot-place.result _ _ _ c.loop-slot.strip _ _ drawn inv.free is_slot read c.mark-mark.ensures.mark at)
            (search rules),
      );
    }
