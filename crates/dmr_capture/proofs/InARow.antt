-- Pieces in a row.
use Rattle.std.proofs.Common.{◌≡◌, ℕ, List, [], ◌∷◌, ◌++◌, refl, sym, ap, ◌∙◌, append-nil, append_assoc}
use Rattle.std.specs.List.{flat_map}
use Rattle.std.proofs.lemmas.List.Concat.{flat_map-append}
use Rattle.dmr_capture.specs.Reading.{AreRead, ArePieces, IsPiece, CapturePiece, state_behind}
use Rattle.dmr_capture.specs.State.{CaptureState, CapturedPacket}

-- no piece at all
pub read_none : (state : CaptureState) → AreRead state [] state []
read_none state = record { pieces = []; each = tt; spelled = refl; held = refl; behind = refl }

pieces_more : (old : CaptureState) (pieces : List CapturePiece) (piece : CapturePiece) → ArePieces old pieces
    → IsPiece (state_behind old pieces) piece.octets piece.state piece.found → ArePieces old (pieces ++ piece ∷ [])
pieces_more old [] piece each next = (next, tt)
pieces_more old (first ∷ pieces) piece (is, each) next = (is, pieces_more first.state pieces piece each next)

state_more : (old : CaptureState) (pieces : List CapturePiece) (piece : CapturePiece)
    → state_behind old (pieces ++ piece ∷ []) ≡ piece.state
state_more old [] piece = refl
state_more old (first ∷ pieces) piece = state_more first.state pieces piece

octets_more : (pieces : List CapturePiece) (piece : CapturePiece)
    → flat_map (λ p. p.octets) (pieces ++ piece ∷ []) ≡ flat_map (λ p. p.octets) pieces ++ piece.octets
octets_more [] piece = append-nil piece.octets
octets_more (first ∷ pieces) piece =
    ap (λ l. first.octets ++ l) (octets_more pieces piece) ∙ sym (append_assoc first.octets (flat_map
    (λ p. p.octets) pieces) piece.octets)

packets_more : (pieces : List CapturePiece) (piece : CapturePiece)
    → flat_map (λ p. p.found) (pieces ++ piece ∷ []) ≡ flat_map (λ p. p.found) pieces ++ piece.found
packets_more [] piece = append-nil piece.found
packets_more (first ∷ pieces) piece =
    ap (λ l. first.found ++ l) (packets_more pieces piece) ∙ sym (append_assoc first.found (flat_map
    (λ p. p.found) pieces) piece.found)

-- one piece more
pub read_more : (old mid new : CaptureState) (octets piece : List ℕ) (packets found : List CapturedPacket)
    → AreRead old octets mid packets → IsPiece mid piece new found → AreRead old (octets ++ piece) new (packets ++ found)
read_more old mid new octets piece packets found read next =
    let last : CapturePiece = record { octets = piece; state = new; found = found } in
    record {
      pieces = read.pieces ++ last ∷ [];
      each = pieces_more old read.pieces last read.each (rw (sym read.behind) next);
      spelled = rw read.spelled (sym (octets_more read.pieces last));
      held = rw read.held (sym (packets_more read.pieces last));
      behind = sym (state_more old read.pieces last);
    }

-- a piece in front
pub read_first : (old mid new : CaptureState) (piece octets : List ℕ) (found packets : List CapturedPacket)
    → IsPiece old piece mid found → AreRead mid octets new packets → AreRead old (piece ++ octets) new (found ++ packets)
read_first old mid new piece octets found packets is read = record {
  pieces = record { octets = piece; state = mid; found = found } ∷ read.pieces;
  each = (is, read.each);
  spelled = ap (λ l. piece ++ l) read.spelled;
  held = ap (λ l. found ++ l) read.held;
  behind = read.behind;
}

pieces_on : (old : CaptureState) (pieces more : List CapturePiece) → ArePieces old pieces → ArePieces (state_behind old pieces) more
    → ArePieces old (pieces ++ more)
pieces_on old [] more each next = next
pieces_on old (first ∷ pieces) more (is, each) next = (is, pieces_on first.state pieces more each next)

state_on : (old : CaptureState) (pieces more : List CapturePiece)
    → state_behind old (pieces ++ more) ≡ state_behind (state_behind old pieces) more
state_on old [] more = refl
state_on old (first ∷ pieces) more = state_on first.state pieces more

-- pieces behind pieces
pub read_on : (old mid new : CaptureState) (octets more : List ℕ) (packets found : List CapturedPacket)
    → AreRead old octets mid packets → AreRead mid more new found → AreRead old (octets ++ more) new (packets ++ found)
read_on old mid new octets more packets found read next = record {
  pieces = read.pieces ++ next.pieces;
  each = pieces_on old read.pieces next.pieces read.each (rw (sym read.behind) next.each);
  spelled = rw (read.spelled, next.spelled) (sym (flat_map-append (λ p. p.octets) read.pieces next.pieces));
  held = rw (read.held, next.held) (sym (flat_map-append (λ p. p.found) read.pieces next.pieces));
  behind = next.behind ∙ ap (λ s. state_behind s next.pieces) read.behind ∙ sym (state_on old read.pieces next.pieces);
}
