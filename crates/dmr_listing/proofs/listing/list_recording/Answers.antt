use Rattle.std.proofs.Common.{rules, ◌+◌, [], ◌∷◌, ◌++◌, None, Some, sym, ap, ◌∙◌, subst, arith}
use Rattle.std.proofs.lemmas.List.{length_push}
use Rattle.dmr_listing.specs.ListingRules.{IsListed, ListingTurn}
use Rattle.dmr_listing.proofs.Listings.{listed_burst, listed_none, listed_silence, read_part}
use Rattle.dmr_recording.proofs.Spelled.{octets_more}
use Rattle.dmr_listing.proofs.listing.list_recording.Goals as goal

pub loop-slot-preserved-in-None : goal.loop-slot-preserved-in-None
loop-slot-preserved-in-None g c =
    let inv = c.loop-slot.invariant in
    let (slots, counted, octet, listed) = inv.so_far in
    let (below, is_slot, read) = rw c.in-Ok-Slot.field-0-is at c.in-Ok-Slot.ensures.slot in
    let silence = rw c.in-None.is at read in
    let long = rw c.in-None.is at c.record_octets-octet.ensures.octets in
    let short = c.record_octets-octet.ensures.few in
    let before = c.slots.ensures.value in
    let turn = c.pass.ensures.turn in
    let later = ap (λ (t : ListingTurn). t.slots) turn in
    let more = length_push slots None in
    let next = octets_more c.args.recording slots None c.loop-slot.octet octet in
    record {
      source = c.in-Ok-Slot.ensures.well;
      lines = inv.lines;
      kept = inv.kept;
      few = omega (arith, below, before, later);
      room = omega (arith, inv.room, short, later);
      so_far = (
        slots ++ None ∷ [],
        omega (arith, more, counted, later),
        ap (λ n. c.loop-slot.octet + n) long ∙ next,
        subst (λ (t : ListingTurn). IsListed g.L.Taker.Takes c.args.recording (slots ++ None ∷ []) [] t
            (g.S.Source.left c.args.source.now) (g.S.Source.left c.read_recording.new.source) c.args.lines.now
            c.loop-slot.lines) (sym turn)
            (listed_silence g.L.Taker.Takes c.args.recording slots c.loop-slot.view _ _ _ _ _ listed silence),
      );
    }

pub loop-slot-init : goal.loop-slot-init
loop-slot-init g c = record {
  source = search rules;
  lines = search rules;
  kept = search rules;
  few = search rules;
  room = search rules;
  so_far = (
    [],
    search rules,
    search rules,
    subst (λ (t : ListingTurn). IsListed g.L.Taker.Takes c.args.recording [] [] t (g.S.Source.left c.args.source.now)
        (g.S.Source.left c.args.source.now) c.args.lines.now c.args.lines.now) (sym c.new-view.ensures.value)
        (listed_none g.L.Taker.Takes c.args.recording _ _),
  );
}

pub returns-then-is_err-clause-output : goal.returns-then-is_err-clause-output
returns-then-is_err-clause-output g c =
    let (slots, counted, octet, listed) = c.loop-slot.invariant.so_far in
    let (below, is_slot, read) = rw c.in-Ok-Slot.field-0-is at c.in-Ok-Slot.ensures.slot in
    let burst = rw c.in-Some.is at read in
    record {
      slots = slots;
      lines = listed.lines;
      burst = c.in-Some.burst;
      end = c.loop-slot.view;
      read = read_part c.args.recording slots listed.lines _ c.loop-slot.view _ _ _ listed.read burst;
      line = c.line-line.result;
      next = c.line-line.ensures.line;
      given = record { between = c.loop-slot.lines; taken = listed.given; last = search rules };
    }

pub loop-slot-preserved : goal.loop-slot-preserved
loop-slot-preserved g c =
    let inv = c.loop-slot.invariant in
    let (slots, counted, octet, listed) = inv.so_far in
    let (below, is_slot, read) = rw c.in-Ok-Slot.field-0-is at c.in-Ok-Slot.ensures.slot in
    let spelled = rw c.in-Some.is at read in
    let is_burst = rw c.in-Some.is at is_slot in
    let long = rw c.in-Some.is at c.record_octets-octet.ensures.octets in
    let short = c.record_octets-octet.ensures.few in
    let before = c.slots.ensures.value in
    let turn = c.line-line.ensures.turn in
    let later = ap (λ (t : ListingTurn). t.slots) turn in
    let burst = c.in-Some.burst in
    let more = length_push slots (Some burst) in
    let next = octets_more c.args.recording slots (Some burst) c.loop-slot.octet octet in
    record {
      source = c.in-Ok-Slot.ensures.well;
      lines = search rules;
      kept = c.put.ensures.kept ∙ inv.kept;
      few = omega (arith, below, before, later);
      room = omega (arith, inv.room, short, later);
      so_far = (
        slots ++ Some burst ∷ [],
        omega (arith, more, counted, later),
        ap (λ n. c.loop-slot.octet + n) long ∙ next,
        subst (λ (t : ListingTurn). IsListed g.L.Taker.Takes c.args.recording (slots ++ Some burst ∷ []) [] t
            (g.S.Source.left c.args.source.now) (g.S.Source.left c.read_recording.new.source) c.args.lines.now
            c.put.new.self) (sym turn)
            (listed_burst g.L.Taker.Takes c.args.recording slots c.loop-slot.view burst c.line-line.result _ _ _ _ _ _
            listed is_burst spelled c.line-line.ensures.line (search rules)),
      );
    }
