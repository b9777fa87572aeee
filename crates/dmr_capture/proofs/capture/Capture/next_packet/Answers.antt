use Rattle.std.proofs.Common.{rules, arith, ◌++◌, []}
use Rattle.std.proofs.KnownBytes.{Consumes-nil, Consumes-trans}
use Rattle.dmr_capture.proofs.InARow.{read_more, read_none}
use Rattle.dmr_capture.proofs.capture.Capture.next_packet.Goals as goal

pub loop-packet-init : goal.loop-packet-init
loop-packet-init g c = record {
  well = search rules;
  room = search rules;
  before = omega arith;
  read = ([], Consumes-nil _, read_none c.args.self.now);
}

pub returns-in-Captured-clause-packet : goal.returns-in-Captured-clause-packet
returns-in-Captured-clause-packet g c =
    let (octets, took, read) = c.loop-packet.invariant.read in
    let (piece, next, is) = rw c.in-Captured.is at c.in_ok-next_piece.ensures.packet in
    (octets ++ piece, Consumes-trans _ _ _ octets piece took next, read_more _ _ _ octets piece [] _ read is)

pub loop-packet-preserved : goal.loop-packet-preserved
loop-packet-preserved g c =
    let (octets, took, read) = c.loop-packet.invariant.read in
    let (piece, next, is) = rw c.in-Passed.is at c.in_ok-next_piece.ensures.passed in
    let onwards = rw c.in-Passed.is at c.in_ok-next_piece.ensures.onwards in
    record {
      well = search rules;
      room = search rules;
      before = omega (arith, c.loop-packet.invariant.before, onwards);
      read = (octets ++ piece, Consumes-trans _ _ _ octets piece took next, read_more _ _ _ octets piece [] [] read is);
    }
