use Rattle.std.proofs.Common.{rules, ◌≡◌, ◌++◌, None, ◌∙◌, arith}
use Rattle.dmr_compare.proofs.Beside.{IsStep}
use Rattle.dmr_compare.proofs.SlotsBeside.{fault_before_first, fault_before_second, fault_of_first, fault_of_second}
use Rattle.dmr_compare.proofs.SlotsBeside.{slots_begun, slots_next, slots_room, whole_compared}
use Rattle.dmr_compare.specs.Printed.{PutsPlace}
use Rattle.dmr_compare.specs.Taking.{PutsFound, found_next}
use Rattle.dmr_record.specs.NextSlot.{slot_if_any}
use Rattle.dmr_compare.proofs.comparing.compare_recordings.Goals as goal

pub pass-requires-clause-none : goal.pass-requires-clause-none
pass-requires-clause-none g c = c.new-one.ensures.none _

pub returns-in-Err-clause-part : goal.returns-in-Err-clause-part
returns-in-Err-clause-part g c =
    let (firsts, short, read) = c.in-Err.ensures.fault in
    fault_before_first c.args.settings.now c.new-one.result c.new-other.result c.args.recording firsts c.in-Err.fault _ _ _ _
    (omega (arith, short, c.slots_in_front_of_first.ensures.value)) c.new-one.ensures.recording c.new-other.ensures.recording read
    (c.new-other.ensures.none (g.T.Source.left c.args.second.now))

pub returns-in-Err-pass-clause-part : goal.returns-in-Err-pass-clause-part
returns-in-Err-pass-clause-part g c =
    let (firsts, short, whole, read) = c.in_default.ensures.read in
    let (seconds, short', read') = c.in-Err-pass.ensures.fault in
    fault_before_second c.args.settings.now c.pass.new.self c.new-other.result c.args.recording firsts seconds c.in-Err-pass.fault
    _ _ _ _ _ (omega (arith, short', c.slots_in_front_of_second.ensures.value))
    (c.in_default.ensures.same_recording ∙ c.new-one.ensures.recording) c.new-other.ensures.recording read read'

pub loop-found-init : goal.loop-found-init
loop-found-init g c =
    let (firsts, short, whole, read) = c.in_default.ensures.read in
    let (seconds, short', whole', read') = c.in_default-pass.ensures.read in
    let m = c.slots_in_front_of_first.ensures.value in
    let n = c.slots_in_front_of_second.ensures.value in
    let (same, (different, (first, second))) = c.default-counts.ensures in
    let stood = slots_begun c.args.settings.now c.pass.new.self c.pass-2.new.self c.default-counts.result firsts seconds _ _ _ _
    (g.K.Sink.held c.args.sink.now) read read' (omega (arith, short, m)) (omega (arith, short', n)) (λ going. whole going ∙ m)
    (λ going. whole' going ∙ n) same different first second in
    record {
      first = search rules;
      second = search rules;
      sink = search rules;
      one = search rules;
      other = search rules;
      beside = (firsts, seconds, stood);
    }

pub next-requires-clause-stands : goal.next-requires-clause-stands
next-requires-clause-stands g c =
    let (firsts, seconds, stood) = c.loop-found.invariant.beside in
    (firsts, _, stood.first_read)

pub returns-in-Err-next-clause-part : goal.returns-in-Err-next-clause-part
returns-in-Err-next-clause-part g c =
    let (firsts, seconds, stood) = c.loop-found.invariant.beside in
    fault_of_first c.args.settings.now c.loop-found.one c.loop-found.other c.args.recording c.loop-found.counts firsts seconds
    c.in-Err-next.fault _ _ _ _ _ _ _ stood c.loop-found.invariant.one c.loop-found.invariant.other
    (c.in-Err-next.ensures.fault firsts _ stood.first_read)

pub next-requires-in-loop-found-clause-stands : goal.next-requires-in-loop-found-clause-stands
next-requires-in-loop-found-clause-stands g c =
    let (firsts, seconds, stood) = c.loop-found.invariant.beside in
    (seconds, _, stood.second_read)

pub returns-in-Err-next-2-clause-part : goal.returns-in-Err-next-2-clause-part
returns-in-Err-next-2-clause-part g c =
    let (firsts, seconds, stood) = c.loop-found.invariant.beside in
    let step : IsStep c.loop-found.one.is_over c.next.new.self.is_over (slot_if_any c.in-Ok.found) =
    record { some = c.in-Ok.ensures.some; none = c.in-Ok.ensures.none } in
    fault_of_second c.args.settings.now c.loop-found.one c.next.new.self c.loop-found.other c.args.recording c.loop-found.counts
    firsts seconds (slot_if_any c.in-Ok.found) c.in-Err-next-2.fault _ _ _ _ _ _ _ _ stood
    (c.in-Ok.ensures.same_recording ∙ c.loop-found.invariant.one) c.loop-found.invariant.other
    (c.in-Ok.ensures.read firsts _ stood.first_read) step (c.in-Err-next-2.ensures.fault seconds _ stood.second_read)

pub returns-in-End-End-clause-whole : goal.returns-in-End-End-clause-whole
returns-in-End-End-clause-whole g c =
    let (firsts, seconds, stood) = c.loop-found.invariant.beside in
    let step : IsStep c.loop-found.one.is_over c.next.new.self.is_over (slot_if_any c.in-Ok.found) =
    record { some = c.in-Ok.ensures.some; none = c.in-Ok.ensures.none } in
    let step' : IsStep c.loop-found.other.is_over c.next-in-loop-found.new.self.is_over (slot_if_any c.in-Ok-next.found) =
    record { some = c.in-Ok-next.ensures.some; none = c.in-Ok-next.ensures.none } in
    let none : slot_if_any c.in-Ok.found ≡ None = search rules in
    let none' : slot_if_any c.in-Ok-next.found ≡ None = search rules in
    let compared = whole_compared c.args.settings.now c.loop-found.one c.next.new.self c.loop-found.other
    c.next-in-loop-found.new.self c.args.recording c.loop-found.counts firsts seconds (slot_if_any c.in-Ok.found)
    (slot_if_any c.in-Ok-next.found) _ _ _ _ _ _ _ _ stood (c.in-Ok.ensures.same_recording ∙ c.loop-found.invariant.one)
    (c.in-Ok-next.ensures.same_recording ∙ c.loop-found.invariant.other) (c.in-Ok.ensures.read firsts _ stood.first_read)
    (c.in-Ok-next.ensures.read seconds _ stood.second_read) step step' none none' in
    (firsts, seconds, compared)

pub take_found-requires-clause-room : goal.take_found-requires-clause-room
take_found-requires-clause-room g c =
    let (firsts, seconds, stood) = c.loop-found.invariant.beside in
    slots_room c.args.settings.now c.loop-found.one c.loop-found.other c.loop-found.counts firsts seconds _ _ _ _ _ _ stood

pub loop-found-preserved : goal.loop-found-preserved
loop-found-preserved g c =
    let (firsts, seconds, stood) = c.loop-found.invariant.beside in
    let step : IsStep c.loop-found.one.is_over c.next.new.self.is_over (slot_if_any c.in-Ok.found) =
    record { some = c.in-Ok.ensures.some; none = c.in-Ok.ensures.none } in
    let step' : IsStep c.loop-found.other.is_over c.next-in-loop-found.new.self.is_over (slot_if_any c.in-Ok-next.found) =
    record { some = c.in-Ok-next.ensures.some; none = c.in-Ok-next.ensures.none } in
    let lines : PutsFound (PutsPlace c.args.settings.now) (slot_if_any c.in-Ok.found) (slot_if_any c.in-Ok-next.found)
    (g.K.Sink.held c.loop-found.sink) (g.K.Sink.held c.take_found.new.sink) = search rules in
    record {
      first = search rules;
      second = search rules;
      sink = search rules;
      one = search rules;
      other = search rules;
      beside = (
        firsts ++ found_next (slot_if_any c.in-Ok.found),
        seconds ++ found_next (slot_if_any c.in-Ok-next.found),
        slots_next c.args.settings.now c.loop-found.one c.next.new.self c.loop-found.other c.next-in-loop-found.new.self
            c.loop-found.counts c.take_found.new.counts firsts seconds (slot_if_any c.in-Ok.found)
            (slot_if_any c.in-Ok-next.found) _ _ _ _ _ _ _ _ _ stood
            (c.in-Ok.ensures.read firsts _ stood.first_read) (c.in-Ok-next.ensures.read seconds _ stood.second_read) step step'
            lines c.take_found.ensures.counted,
      );
    }
