use Rattle.std.proofs.Common.{rules, [], ◌∷◌, ◌++◌, sym, ap, ◌∙◌, subst, take, arith}
use Rattle.dmr_capture.proofs.ReadTo.{read_to_end, read_to_more, read_to_none}
use Rattle.dmr_capture.specs.State.{CapturedPacket, captured_packet}
use Rattle.dmr_dmrd.proofs.InTurn.{few_frames, held_more, none_held}
use Rattle.dmr_dmrd.specs.Holding.{AreSlotsHeld, hold_with, late_or_other}
use Rattle.dmr_dmrd.proofs.import.take_packets.Goals as goal

pub loop-packet-init : goal.loop-packet-init
loop-packet-init g c =
    let (head, took, begins) = c.in-Ok.ensures.head in
    let begin = c.requires.begin in
    let none = ap late_or_other begin in
    record {
      source = search rules;
      room = search rules;
      held = subst AreSlotsHeld (sym begin) (none_held c.args.settings.now);
      far = search rules;
      few = omega (arith, none);
      so_far = ([], begin, read_to_none c.in-Ok.capture head _ _ begins took);
    }

pub returns-in-Ok-None-clause-all : goal.returns-in-Ok-None-clause-all
returns-in-Ok-None-clause-all g c =
    let inv = c.loop-packet.invariant in
    let (list, behind, so_far) = inv.so_far in
    let (octets, took, read) = rw c.in-Ok-None.field-0-is at c.in-Ok-None.ensures.end in
    record {
      state = c.next_packet.new.self;
      packets = list;
      each = record {
        read = read_to_end c.loop-packet.capture c.next_packet.new.self list octets _ _ _ so_far read took;
        few = few_frames _ (subst AreSlotsHeld behind inv.held);
      };
      end = rw c.in-Ok-None.field-0-is at c.in-Ok-None.ensures.done;
      held = behind;
    }

pub loop-packet-preserved : goal.loop-packet-preserved
loop-packet-preserved g c =
    let inv = c.loop-packet.invariant in
    let settings = c.args.settings.now in
    let (list, behind, so_far) = inv.so_far in
    let (octets, took, read) = rw c.in-Ok-Some.field-0-is at c.in-Ok-Some.ensures.packet in
    let onwards = rw c.in-Ok-Some.field-0-is at c.in-Ok-Some.ensures.onwards in
    let next : CapturedPacket = captured_packet c.in-Ok-Some.packet (take c.in-Ok-Some.packet.length c.next_packet.new.room) in
    let few = c.in-Ok-take.ensures.few in
    let before = inv.few in
    record {
      source = c.in-Ok-Some.ensures.well;
      room = omega (arith, c.next_packet.auto.room, inv.room);
      held = c.in-Ok-take.ensures.held;
      far = c.next_packet.ensures.far;
      few = omega (arith, before, few, onwards);
      so_far = (
        list ++ next ∷ [],
        c.in-Ok-take.ensures.taken ∙ ap (λ h. hold_with settings h next) behind ∙ sym (held_more settings list next),
        read_to_more c.loop-packet.capture c.next_packet.new.self list next octets _ _ _ so_far read took,
      );
    }

pub returns-in-Ok-None-clause-few : goal.returns-in-Ok-None-clause-few
returns-in-Ok-None-clause-few g c =
    let few = c.loop-packet.invariant.few in
    let far = c.loop-packet.invariant.far in
    omega (arith, few, far)
