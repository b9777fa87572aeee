-- A capture, read on packet by packet.
use Rattle.std.proofs.Common.{ℕ, List, [], ◌∷◌, ◌++◌, Option, sym, subst, append-nil, append_assoc}
use Rattle.std.specs.Io.KnownBytes.{Consumes}
use Rattle.std.proofs.KnownBytes.{Consumes-trans}
use Rattle.dmr_capture.proofs.InARow.{read_none, read_on}
use Rattle.dmr_capture.specs.Reading.{AreRead, BeginsCapture, IsReadTo}
use Rattle.dmr_capture.specs.State.{CaptureState, CapturedPacket}

-- the capture with a packet more
pub read_to_more : (state new : CaptureState) (packets : List CapturedPacket) (next : CapturedPacket) (octets : List ℕ)
    (a b c : Option (List ℕ)) → IsReadTo state packets a b → AreRead state octets new (next ∷ []) → Consumes b c octets
    → IsReadTo new (packets ++ next ∷ []) a c
read_to_more state new packets next octets a b c before read took = record {
  head = before.head;
  rest = before.rest ++ octets;
  first = before.first;
  begins = before.begins;
  pieces = read_on before.first state new before.rest octets packets (next ∷ []) before.pieces read;
  read = subst (Consumes a c) (append_assoc before.head before.rest octets) (Consumes-trans a b c _ _ before.read took);
}

-- the same with no packet more
pub read_to_end : (state new : CaptureState) (packets : List CapturedPacket) (octets : List ℕ) (a b c : Option (List ℕ))
    → IsReadTo state packets a b → AreRead state octets new [] → Consumes b c octets → IsReadTo new packets a c
read_to_end state new packets octets a b c before read took = record {
  head = before.head;
  rest = before.rest ++ octets;
  first = before.first;
  begins = before.begins;
  pieces = subst (AreRead before.first (before.rest ++ octets) new) (append-nil packets)
      (read_on before.first state new before.rest octets packets [] before.pieces read);
  read = subst (Consumes a c) (append_assoc before.head before.rest octets) (Consumes-trans a b c _ _ before.read took);
}

-- in front of the packets
pub read_to_none : (state : CaptureState) (head : List ℕ) (a b : Option (List ℕ)) → BeginsCapture head state → Consumes a b head
    → IsReadTo state [] a b
read_to_none state head a b begins took = record {
  head = head;
  rest = [];
  first = state;
  begins = begins;
  pieces = read_none state;
  read = subst (Consumes a b) (sym (append-nil head)) took;
}
