use Rattle.std.proofs.Common.{◌≡◌, ◌+◌, ◌++◌, length, take, arith, refl, inr, sym, subst, ap}
use Rattle.std.proofs.lemmas.List.{length-append}
use Rattle.std.proofs.KnownBytes.{Consumes-trans}
use Rattle.dmr_capture.specs.CutFaults.{cut_packet_fault}
use Rattle.dmr_capture.specs.Reading.{ShowsRecordFault}
use Rattle.dmr_capture.specs.Records.{IsPartOfPacket, IsRecordHead}
use Rattle.dmr_capture.specs.contracts.capture.Capture.{the_view}
use Rattle.dmr_capture.proofs.Fronts.{some_octets}
use Rattle.dmr_capture.proofs.Records.{cut_record, is_record}
use Rattle.dmr_capture.proofs.Rests.{filled_whole}
use Rattle.dmr_capture.proofs.capture.Capture.next_record.Goals as goal

pub returns-in-Err-fill_whole-clause-fault : goal.returns-in-Err-fill_whole-clause-fault
returns-in-Err-fill_whole-clause-fault g c =
    let (head, took, stands, count) = c.in-Ok-eq16.ensures.octets in
    let sixteen : length head ≡ 16 = omega (arith, count, c.in-Ok-eq16.field-0-test) in
    let same = filled_whole 16 c.fill.new.buffer head c.fill.auto.buffer
    (subst (λ n. take n c.fill.new.buffer ≡ head) c.in-Ok-eq16.field-0-test stands) in
    let (packet, fewer, next) = c.in-Err-fill_whole.ensures.part in
    let part = head ++ packet in
    let says : IsRecordHead (the_view c.self.inside).order head c.u32_at-length.result = record {
      whole = sixteen;
      says = rw same at c.u32_at-length.ensures.number;
      short = c.if-length-gt-PACKET_LIMIT.false;
    } in
    let less : IsPartOfPacket (the_view c.self.inside) part = record {
      head = head;
      packet = packet;
      captured = c.u32_at-length.result;
      parts = refl;
      says = says;
      less = omega (arith, fewer);
    } in (
      part,
      Consumes-trans _ _ _ head packet took next,
      subst (λ e. ShowsRecordFault c.args.self.now e part) (sym c.cut_packet.ensures.fault)
          (subst (λ s. ShowsRecordFault s (cut_packet_fault c.in-Err-fill_whole.cut c.self.inside.octet) part) c.self.view_is
          (cut_record (the_view c.self.inside) c.in-Err-fill_whole.cut part
          (some_octets part (omega (arith, length-append head packet, sixteen))) (inr less))),
    )

pub returns-clause-packet : goal.returns-clause-packet
returns-clause-packet g c =
    let (head, took, stands, count) = c.in-Ok-eq16.ensures.octets in
    let sixteen : length head ≡ 16 = omega (arith, count, c.in-Ok-eq16.field-0-test) in
    let same = filled_whole 16 c.fill.new.buffer head c.fill.auto.buffer
    (subst (λ n. take n c.fill.new.buffer ≡ head) c.in-Ok-eq16.field-0-test stands) in
    let (packet, next, filled, whole) = c.in_default.ensures.octets in
    let says : IsRecordHead (the_view c.self.inside).order head c.u32_at-length.result = record {
      whole = sixteen;
      says = rw same at c.u32_at-length.ensures.number;
      short = c.if-length-gt-PACKET_LIMIT.false;
    } in
    let seconds = rw same at c.u32_at.ensures.number in
    let part = rw same at c.u32_at-2.ensures.number in (
      head ++ packet,
      Consumes-trans _ _ _ head packet took next,
      is_record c.args.link c.args.fraction (the_view c.self.inside) c.args.self.now head packet _ c.u32_at-length.result _ _
          c.self.view_is says (omega (arith, whole)) (rw (seconds, part) at c.time_in-time.ensures.time)
          (ap (λ n. c.self.inside.octet + (16 + n)) c.from.ensures) filled,
    )
