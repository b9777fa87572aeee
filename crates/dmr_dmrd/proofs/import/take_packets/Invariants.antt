-- The packets so far are held.
use Rattle.std.proofs.Common.{◌≡◌, ◌+◌, ◌-◌, ◌^◌, ◌≤◌, List, length, false}
use Rattle.dmr_capture.specs.Reading.{IsReadTo}
use Rattle.dmr_capture.specs.State.{CapturedPacket, octet_limit}
use Rattle.dmr_dmrd.specs.Holding.{AreSlotsHeld, held_of_capture, late_or_other}
use Rattle.dmr_dmrd.proofs.import.take_packets.Given as goal

abbrev pub invariant-loop-packet : goal.invariant-loop-packet
invariant-loop-packet g l = record {
  source : g.S.Source.has_failed l.source ≡ false;
  room : 262144 ≤ length l.room;
  held : AreSlotsHeld l.hold;
  far : l.capture.octet ≤ octet_limit + 2 ^ 33;
  few : late_or_other l.hold ≤ l.capture.octet;
  so_far : (list : List CapturedPacket) × (l.hold ≡ held_of_capture l.settings list)
      × IsReadTo l.capture list (g.S.Source.left l.fn.source) (g.S.Source.left l.source);
}

abbrev pub decreases-loop-packet : goal.decreases-loop-packet
decreases-loop-packet g l = octet_limit + 2 ^ 33 - l.capture.octet
