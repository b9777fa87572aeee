-- What was read so far holds no packet.
use Rattle.std.proofs.Common.{◌≡◌, ◌+◌, ◌-◌, ◌^◌, ◌≤◌, [], List, ℕ, length, false}
use Rattle.std.specs.Io.KnownBytes.{Consumes}
use Rattle.dmr_capture.specs.Reading.{AreRead}
use Rattle.dmr_capture.specs.State.{octet_limit}
use Rattle.dmr_capture.proofs.capture.Capture.next_packet.Given as goal

abbrev pub invariant-loop-packet : goal.invariant-loop-packet
invariant-loop-packet g l = record {
  well : g.S.Source.has_failed l.source ≡ false;
  room : 262144 ≤ length l.room;
  before : l.initial.self.octet ≤ l.self.octet;
  read : (octets : List ℕ) × Consumes (g.S.Source.left l.initial.source) (g.S.Source.left l.source) octets
      × AreRead l.initial.self octets l.self [];
}

abbrev pub decreases-loop-packet : goal.decreases-loop-packet
decreases-loop-packet g l = octet_limit + 2 ^ 33 - l.self.octet
