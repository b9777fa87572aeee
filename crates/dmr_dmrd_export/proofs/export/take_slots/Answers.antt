use Rattle.std.proofs.Common.{rules, ◌≡◌, ℕ, ◌+◌, [], ◌∷◌, ◌++◌, Some, length, refl, sym, ap, ◌∙◌, subst, arith}
use Rattle.std.proofs.Common.{cond, is_some}
use Rattle.std.proofs.lemmas.List.{length-append, length_push}
use Rattle.dmr_listing.specs.ListingRules.{ListingTurn}
use Rattle.dmr_recording.proofs.Spelled.{octets_more}
use Rattle.dmr_recording.specs.Places.{place_by_number}
use Rattle.dmr_recording.specs.Recordings.{ShowsSlotFaultOf}
use Rattle.dmr_recording.specs.declared.recording.Recording.TheVariants.{Downlink}
use Rattle.dmr_dmrd_export.specs.BurstExports.{AreBurstsRead}
use Rattle.dmr_dmrd_export.specs.declared.state.ExportState.{ExportState}
use Rattle.dmr_dmrd_export.proofs.Slots.{count_more, read_more, read_none, read_part}
use Rattle.dmr_dmrd_export.proofs.Writing.{torn_then, written_none, written_then}
use Rattle.dmr_dmrd_export.proofs.export.take_slots.Goals as goal

pub loop-slot-init : goal.loop-slot-init
loop-slot-init g c =
    let begin = c.requires.begin in
    let slots = ap (λ (s : ExportState). s.streams.slots + length s.waiting) begin in
    let names = ap (λ (s : ExportState). s.streams.names) begin in
    let view = ap (λ (t : ListingTurn). t.slots) c.new-view.ensures.value in
    record {
      source = search rules;
      sink = search rules;
      few = omega (arith, view);
      room = omega (arith, slots, view);
      names = omega (arith, names);
      far = omega (arith, view);
      some = omega arith;
      sent = omega arith;
      so_far = (
        [],
        [],
        [],
        omega (arith, view),
        refl,
        refl,
        refl,
        subst (λ (t : ListingTurn). AreBurstsRead [] [] [] t (g.S.Source.left c.args.source.now)
            (g.S.Source.left c.args.source.now)) (sym c.new-view.ensures.value) (read_none _),
        written_none c.args.settings.now c.args.state.now _,
      );
    }

pub returns-in-Ok-End-clause-all : goal.returns-in-Ok-End-clause-all
returns-in-Ok-End-clause-all g c =
    let (slots, bursts, packets, counted, octet, records, written, read, put) = c.loop-slot.invariant.so_far in
    let (even, none, at_end) = rw c.in-Ok-End.field-0-is at c.in-Ok-End.ensures.end in
    record {
      slots = slots;
      packets = packets;
      taken = record {
        bursts = bursts;
        turn = c.loop-slot.view;
        read = read_part slots bursts [] c.loop-slot.view _ _ _ read none;
        written = put;
      };
      records = records;
      count = written;
    }

pub returns-in-Err-clause-fault : goal.returns-in-Err-clause-fault
returns-in-Err-clause-fault g c =
    let (slots, bursts, packets, counted, octet, records, written, read, put) = c.loop-slot.invariant.so_far in
    let (part, took, shown) = c.in-Err.ensures.fault in
    let at : c.slots-slots.result ≡ length slots = c.slots-slots.ensures.value ∙ sym counted in
    rw c.fault_at.ensures.stop (record {
      slots = slots;
      part = part;
      packets = packets;
      taken = record {
        bursts = bursts;
        turn = c.loop-slot.view;
        read = read_part slots bursts part c.loop-slot.view _ _ _ read took;
        written = put;
      };
      shown = record {
        shown = subst (λ (n : ℕ). ShowsSlotFaultOf Downlink n c.in-Err.fault part) at shown;
        octet = octet;
        place = ap (λ (n : ℕ). Some (place_by_number n)) at;
      };
    })

pub returns-in-Err-take-clause-torn : goal.returns-in-Err-take-clause-torn
returns-in-Err-take-clause-torn g c =
    let (slots, bursts, packets, counted, octet, records, written, read, put) = c.loop-slot.invariant.so_far in
    let (below, is_slot, took) = rw c.in-Ok-Slot.field-0-is at c.in-Ok-Slot.ensures.slot in
    let burst = c.next_repeated-burst.result in
    record {
      slots = slots ++ c.in-Ok-Slot.slot ∷ [];
      bursts = bursts ++ burst ∷ [];
      turn = c.next_repeated-burst.new.view;
      read = read_more slots bursts c.in-Ok-Slot.slot burst c.loop-slot.view c.next_repeated-burst.new.view _ _ _ read is_slot took
          c.next_repeated-burst.ensures.next;
      torn = torn_then c.args.settings.now c.args.state.now c.loop-slot.state bursts (burst ∷ []) packets _ _ _ put
          c.in-Err-take.ensures.torn;
    }

pub loop-slot-preserved : goal.loop-slot-preserved
loop-slot-preserved g c =
    let inv = c.loop-slot.invariant in
    let (slots, bursts, packets, counted, octet, records, written, read, put) = inv.so_far in
    let (below, is_slot, took) = rw c.in-Ok-Slot.field-0-is at c.in-Ok-Slot.ensures.slot in
    let (more, count, put_more) = c.in-Ok.ensures.written in
    let slot = c.in-Ok-Slot.slot in
    let burst = c.next_repeated-burst.result in
    let before = c.slots-slots.ensures.value in
    let later = c.next_repeated-burst.ensures.slots in
    let few = c.in-Ok.ensures.few in
    let room = c.take.ensures.room in
    let short = c.record_octets-octet.ensures.few in
    let long = c.record_octets-octet.ensures.octets in
    let one = c.bursts_in-records.ensures.value in
    let at_most = c.bursts_in-records.ensures.few in
    let all = count_more slots slot in
    let pushed = length_push slots slot in
    let grown = length-append packets more in
    record {
      source = c.in-Ok-Slot.ensures.well;
      sink = c.in-Ok.ensures.well;
      few = omega (arith, below, before, later);
      room = omega (arith, inv.room, room, later);
      names = c.take.ensures.names;
      far = omega (arith, inv.far, short, later);
      some = omega (arith, inv.some, at_most, later);
      sent = omega (arith, inv.sent, few, later);
      so_far = (
        slots ++ slot ∷ [],
        bursts ++ burst ∷ [],
        packets ++ more,
        omega (arith, pushed, counted, later),
        ap (λ n. c.loop-slot.octet + n) long ∙ octets_more Downlink slots slot c.loop-slot.octet octet,
        ap (λ n. c.loop-slot.records + n) one ∙ ap (λ n. n + cond (is_some slot) 1 0) records ∙ sym all,
        omega (arith, written, count, grown),
        read_more slots bursts slot burst c.loop-slot.view c.next_repeated-burst.new.view _ _ _ read is_slot took
            c.next_repeated-burst.ensures.next,
        written_then c.args.settings.now c.args.state.now c.loop-slot.state c.take.new.self bursts (burst ∷ []) packets more
            _ _ _ put put_more,
      );
    }
