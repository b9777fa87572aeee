use Rattle.std.proofs.Common.{rules, ◌≡◌, ◌++◌, [], None, ◌∙◌}
use Rattle.dmr_compare.proofs.Beside.{IsStep}
use Rattle.dmr_compare.proofs.ListReading.{found_of, step_of}
use Rattle.dmr_compare.proofs.RecordsBeside.{first_list_at_fault, lists_compared, records_begun, records_next, records_room}
use Rattle.dmr_compare.proofs.RecordsBeside.{second_list_at_fault}
use Rattle.dmr_compare.specs.ListReading.{record_found}
use Rattle.dmr_compare.specs.ListRecords.{PutsRecords}
use Rattle.dmr_compare.specs.Taking.{PutsFound, found_next}
use Rattle.dmr_compare.proofs.list_comparing.compare_lists.Goals as goal

pub loop-found-init : goal.loop-found-init
loop-found-init g c =
    let (same, (different, (first, second))) = c.default-counts.ensures in
    let stood = records_begun c.args.settings.now c.new-one.result c.new-other.result c.default-counts.result
    (g.S.Source.left c.args.first.now) (g.T.Source.left c.args.second.now) (g.K.Sink.held c.args.sink.now)
    (c.new-one.ensures.none _) (c.new-other.ensures.none _) same different first second in
    record {
      first = search rules;
      second = search rules;
      sink = search rules;
      first_room = search rules;
      second_room = search rules;
      one = search rules;
      other = search rules;
      beside = ([], [], stood);
    }

pub returns-in-Err-clause-part : goal.returns-in-Err-clause-part
returns-in-Err-clause-part g c =
    let (firsts, seconds, stood) = c.loop-found.invariant.beside in
    first_list_at_fault c.args.settings.now c.loop-found.one c.loop-found.other c.args.list c.loop-found.counts firsts seconds
    c.in-Err.fault _ _ _ _ _ _ _ stood c.loop-found.invariant.one c.loop-found.invariant.other
    (c.in-Err.ensures.fault firsts _ stood.first_read)

pub returns-in-Err-next-clause-part : goal.returns-in-Err-next-clause-part
returns-in-Err-next-clause-part g c =
    let (firsts, seconds, stood) = c.loop-found.invariant.beside in
    let found = record_found c.in-Ok.found c.next.new.room in
    let step : IsStep c.loop-found.one.is_over c.next.new.self.is_over found =
    step_of c.loop-found.one.is_over c.next.new.self.is_over c.in-Ok.found c.next.new.room c.in-Ok.ensures.some
    c.in-Ok.ensures.none in
    second_list_at_fault c.args.settings.now c.loop-found.one c.next.new.self c.loop-found.other c.args.list c.loop-found.counts
    firsts seconds found c.in-Err-next.fault _ _ _ _ _ _ _ _ stood (c.in-Ok.ensures.same_list ∙ c.loop-found.invariant.one)
    c.loop-found.invariant.other (c.in-Ok.ensures.read firsts _ stood.first_read) step
    (c.in-Err-next.ensures.fault seconds _ stood.second_read)

pub next-requires-clause-stands : goal.next-requires-clause-stands
next-requires-clause-stands g c =
    let (firsts, seconds, stood) = c.loop-found.invariant.beside in
    (firsts, _, stood.first_read)

pub next-requires-in-loop-found-clause-stands : goal.next-requires-in-loop-found-clause-stands
next-requires-in-loop-found-clause-stands g c =
    let (firsts, seconds, stood) = c.loop-found.invariant.beside in
    (seconds, _, stood.second_read)

pub returns-then-is_none-2-clause-whole : goal.returns-then-is_none-2-clause-whole
returns-then-is_none-2-clause-whole g c =
    let (firsts, seconds, stood) = c.loop-found.invariant.beside in
    let first = record_found c.in-Ok.found c.next.new.room in
    let second = record_found c.in-Ok-next.found c.next-in-loop-found.new.room in
    let step : IsStep c.loop-found.one.is_over c.next.new.self.is_over first =
    step_of c.loop-found.one.is_over c.next.new.self.is_over c.in-Ok.found c.next.new.room c.in-Ok.ensures.some
    c.in-Ok.ensures.none in
    let step' : IsStep c.loop-found.other.is_over c.next-in-loop-found.new.self.is_over second =
    step_of c.loop-found.other.is_over c.next-in-loop-found.new.self.is_over c.in-Ok-next.found c.next-in-loop-found.new.room
    c.in-Ok-next.ensures.some c.in-Ok-next.ensures.none in
    let none : c.in-Ok.found ≡ None = search rules in
    let none' : c.in-Ok-next.found ≡ None = search rules in
    let compared = lists_compared c.args.settings.now c.loop-found.one c.next.new.self c.loop-found.other
    c.next-in-loop-found.new.self c.args.list c.loop-found.counts firsts seconds first second _ _ _ _ _ _ _ _ stood
    (c.in-Ok.ensures.same_list ∙ c.loop-found.invariant.one) (c.in-Ok-next.ensures.same_list ∙ c.loop-found.invariant.other)
    (c.in-Ok.ensures.read firsts _ stood.first_read) (c.in-Ok-next.ensures.read seconds _ stood.second_read) step step'
    (found_of c.in-Ok.found c.next.new.room none) (found_of c.in-Ok-next.found c.next-in-loop-found.new.room none') in
    (firsts, seconds, compared)

pub take_records-taken-requires-clause-room : goal.take_records-taken-requires-clause-room
take_records-taken-requires-clause-room g c =
    let (firsts, seconds, stood) = c.loop-found.invariant.beside in
    records_room c.args.settings.now c.loop-found.one c.loop-found.other c.loop-found.counts firsts seconds _ _ _ _ _ _ stood

pub loop-found-preserved : goal.loop-found-preserved
loop-found-preserved g c =
    let (firsts, seconds, stood) = c.loop-found.invariant.beside in
    let first = record_found c.in-Ok.found c.next.new.room in
    let second = record_found c.in-Ok-next.found c.next-in-loop-found.new.room in
    let step : IsStep c.loop-found.one.is_over c.next.new.self.is_over first =
    step_of c.loop-found.one.is_over c.next.new.self.is_over c.in-Ok.found c.next.new.room c.in-Ok.ensures.some
    c.in-Ok.ensures.none in
    let step' : IsStep c.loop-found.other.is_over c.next-in-loop-found.new.self.is_over second =
    step_of c.loop-found.other.is_over c.next-in-loop-found.new.self.is_over c.in-Ok-next.found c.next-in-loop-found.new.room
    c.in-Ok-next.ensures.some c.in-Ok-next.ensures.none in
    let lines : PutsFound (PutsRecords c.args.settings.now) first second (g.K.Sink.held c.loop-found.sink)
    (g.K.Sink.held c.take_records-taken.new.sink) = search rules in
    record {
      first = search rules;
      second = search rules;
      sink = search rules;
      first_room = search rules;
      second_room = search rules;
      one = search rules;
      other = search rules;
      beside = (
        firsts ++ found_next first,
        seconds ++ found_next second,
        records_next c.args.settings.now c.loop-found.one c.next.new.self c.loop-found.other c.next-in-loop-found.new.self
            c.loop-found.counts c.take_records-taken.new.counts firsts seconds first second _ _ _ _ _ _ _ _ _ stood
            (c.in-Ok.ensures.read firsts _ stood.first_read) (c.in-Ok-next.ensures.read seconds _ stood.second_read) step step'
            lines c.take_records-taken.ensures.counted,
      );
    }
