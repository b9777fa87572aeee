use Rattle.std.proofs.Common.{rules, ◌≡◌, ◌≤◌, [], ◌∷◌, ◌++◌, take, refl, sym, ap, ◌∙◌, subst, arith}
use Rattle.std.proofs.lemmas.List.{length_push}
use Rattle.std.specs.Io.KnownBytes.{Appends}
use Rattle.std.specs.List.{AllByRecursion}
use Rattle.dmr_record.specs.Devices.{Tears}
use Rattle.dmr_record.specs.Head.{record_limit}
use Rattle.dmr_record.specs.Outgoing.{IsSending, sendings_octets}
use Rattle.dmr_capture.proofs.ReadTo.{read_to_end}
use Rattle.dmr_capture.specs.State.{CapturedPacket, captured_packet}
use Rattle.dmr_datagrams.specs.Imports.{AreSendings}
use Rattle.dmr_datagrams.specs.Sendings.{imported, no_progress, progress_behind, progress_of, sendings_of}
use Rattle.dmr_datagrams.proofs.Imported.{Tells, head_torn, imported_more, imported_none, imported_torn, list_more, progress_more}
use Rattle.dmr_datagrams.proofs.Imported.{tells_more}
use Rattle.dmr_datagrams.proofs.Puts.{failed_holds, well_holds}
use Rattle.dmr_datagrams.proofs.import.import_list.Goals as goal

pub returns-then-is_err-clause-torn : goal.returns-then-is_err-clause-torn
returns-then-is_err-clause-torn g c =
    let (head, took, begins) = c.in-Ok.ensures.head in
    head_torn c.args.settings c.in-Ok.capture head _ _ _ _ begins took
    (failed_holds c.write_head.result _ (sym c.is_err.ensures.value ∙ c.if-is_err.true) c.write_head.ensures.torn)

pub loop-packet-init : goal.loop-packet-init
loop-packet-init g c =
    let (head, took, begins) = c.in-Ok.ensures.head in
    let new = c.new-progress.ensures.value in
    let none : c.new-progress.result.records ≡ 0 = ap (λ p. p.records) new in
    let is_well = sym c.is_err.ensures.value ∙ c.if-is_err.false in
    record {
      source = search rules;
      sink = well_holds c.write_head.result _ is_well c.write_head.ensures.well;
      room = search rules;
      few = omega (arith, none);
      some = omega (arith, none);
      far = omega arith;
      so_far = (
        [],
        refl,
        new,
        record { records = none; last = sym (ap (λ p. p.last) new) },
        imported_none c.args.settings c.in-Ok.capture head _ _ _ _ begins took
            (well_holds c.write_head.result _ is_well c.write_head.ensures.head),
      );
    }

pub returns-in-Ok-None-clause-whole : goal.returns-in-Ok-None-clause-whole
returns-in-Ok-None-clause-whole g c =
    let inv = c.loop-packet.invariant in
    let (list, counted, behind, tells, so_far) = inv.so_far in
    let (octets, took, read) = rw c.in-Ok-None.field-0-is at c.in-Ok-None.ensures.end in
    let from = c.from.ensures in
    record {
      state = c.next_packet.new.self;
      packets = list;
      each = record {
        read = read_to_end c.loop-packet.capture c.next_packet.new.self list octets _ _ _ so_far.read read took;
        list = so_far.list;
        written = so_far.written;
      };
      end = rw c.in-Ok-None.field-0-is at c.in-Ok-None.ensures.done;
      records = tells.records;
      other = omega (arith, inv.some, counted, from);
    }

pub returns-in-Err-Torn-clause-torn : goal.returns-in-Err-Torn-clause-torn
returns-in-Err-Torn-clause-torn g c =
    let inv = c.loop-packet.invariant in
    let settings = c.args.settings in
    let (list, counted, behind, tells, so_far) = inv.so_far in
    let (octets, took, read) = rw c.in-Ok-Some.field-0-is at c.in-Ok-Some.ensures.packet in
    let next : CapturedPacket = captured_packet c.in-Ok-Some.packet (take c.in-Ok-Some.packet.length c.next_packet.new.room) in
    let whole = rw c.in-Err-Torn.field-0-is at c.in-Err-Torn.ensures.whole in
    let room = rw c.in-Err-Torn.field-0-is at c.in-Err-Torn.ensures.room in
    let torn = rw c.in-Err-Torn.field-0-is at c.in-Err-Torn.ensures.torn in
    let told = subst (λ p. Tells p (imported settings list)) behind tells in
    let few : (progress_behind settings no_progress (list ++ next ∷ [])).records ≤ record_limit =
    subst (λ p. p.records ≤ record_limit)
    (ap (λ p. progress_of settings p next) behind ∙ sym (progress_more settings no_progress list next)) room in
    let fit = subst (λ p. AllByRecursion IsSending (sendings_of settings p next)) behind whole in
    imported_torn settings c.loop-packet.capture c.next_packet.new.self list next octets _ _ _ _ _ _ so_far read took
    (list_more settings list next told so_far.list fit few)
    (subst (λ p. Tears (g.K.Sink.held c.loop-packet.sink) (g.K.Sink.held c.take.new.sink)
    (sendings_octets (sendings_of settings p next))) behind torn)

pub loop-packet-preserved : goal.loop-packet-preserved
loop-packet-preserved g c =
    let inv = c.loop-packet.invariant in
    let settings = c.args.settings in
    let (list, counted, behind, tells, so_far) = inv.so_far in
    let (octets, took, read) = rw c.in-Ok-Some.field-0-is at c.in-Ok-Some.ensures.packet in
    let onwards = rw c.in-Ok-Some.field-0-is at c.in-Ok-Some.ensures.onwards in
    let next : CapturedPacket = captured_packet c.in-Ok-Some.packet (take c.in-Ok-Some.packet.length c.next_packet.new.room) in
    let told = subst (λ p. Tells p (imported settings list)) behind tells in
    let few = c.in-Ok-take.ensures.few inv.few in
    let further : c.in-Ok-take.further ≡ progress_behind settings no_progress (list ++ next ∷ []) =
    c.in-Ok-take.ensures.progress ∙ ap (λ p. progress_of settings p next) behind
    ∙ sym (progress_more settings no_progress list next) in
    let fit = subst (λ p. AllByRecursion IsSending (sendings_of settings p next)) behind c.in-Ok-take.ensures.fit in
    let put = subst (λ p. Appends (g.K.Sink.held c.loop-packet.sink) (g.K.Sink.held c.take.new.sink)
    (sendings_octets (sendings_of settings p next))) behind c.in-Ok-take.ensures.records in
    let more : AreSendings (imported settings (list ++ next ∷ [])) =
    list_more settings list next told so_far.list fit (subst (λ p. p.records ≤ record_limit) further few) in
    let count = length_push list next in
    let one = c.in-Ok-take.ensures.one in
    record {
      source = c.in-Ok-Some.ensures.well;
      sink = c.in-Ok-take.ensures.well;
      room = omega (arith, c.next_packet.auto.room, inv.room);
      few = few;
      some = omega (arith, inv.some, one);
      far = omega (arith, inv.far, onwards);
      so_far = (
        list ++ next ∷ [],
        omega (arith, counted, count),
        further,
        subst (λ p. Tells p (imported settings (list ++ next ∷ []))) (sym further) (tells_more settings list next told),
        imported_more settings c.loop-packet.capture c.next_packet.new.self list next octets _ _ _ _ _ _ so_far read took more put,
      );
    }
