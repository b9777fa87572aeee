-- What is listed of an outgoing list goes on, record by record.
use Rattle.std.proofs.Common.{◌≡◌, ℕ, ◌+◌, ◌≤◌, List, [], ◌∷◌, ◌++◌, length, Option, refl, sym, ap, ◌∙◌, subst}
use Rattle.std.proofs.Common.{arith, append-nil}
use Rattle.std.proofs.ByRecursion.{All-push}
use Rattle.std.proofs.lemmas.List.{length-append}
use Rattle.std.proofs.lemmas.List.Concat.{flat_map-append}
use Rattle.std.specs.Io.KnownBytes.{Consumes}
use Rattle.std.proofs.KnownBytes.{Consumes-trans, Consumes-nil}
use Rattle.dmr_record.specs.Outgoing.{AreInFrameOrder, IsSending, Keeps, Sending, sending_octets, sending_of, sendings_octets}
use Rattle.dmr_record.specs.declared.outgoing.Outgoing.{Outgoing}
use Rattle.dmr_recording.specs.Places.{octet_behind}
use Rattle.dmr_record.specs.Outgoing.{IsReadOutgoing, AreReadFrom, last_frame}
use Rattle.dmr_listing.specs.OutgoingListings.{AreSendingsListed, AreSendingsRead}
use Rattle.dmr_listing.proofs.Listings.{given_one_more}

order_more : (last : ℕ) (sendings : List Sending) (next : Sending) → AreInFrameOrder last sendings
    → last_frame last sendings ≤ next.frame → AreInFrameOrder last (sendings ++ next ∷ [])
order_more last [] next order behind = (behind, tt)
order_more last (s ∷ ss) next (first, rest) behind = (first, order_more s.frame ss next rest behind)

-- with a record more at the end, the last frame is that record's
pub last_more : (last : ℕ) (sendings : List Sending) (next : Sending) → last_frame last (sendings ++ next ∷ []) ≡ next.frame
last_more last [] next = refl
last_more last (s ∷ ss) next = last_more s.frame ss next

reads_more : (sendings : List Sending) (reads : List Outgoing) (next : Sending) (read : Outgoing) → AreReadFrom reads sendings
    → IsReadOutgoing read next → AreReadFrom (reads ++ read ∷ []) (sendings ++ next ∷ [])
reads_more [] [] next read none is_read = (is_read, tt)
reads_more [] (r ∷ rs) next read are_read is_read = absurd are_read
reads_more (s ∷ ss) [] next read are_read is_read = absurd are_read
reads_more (s ∷ ss) (r ∷ rs) next read (first, rest) is_read = (first, reads_more ss rs next read rest is_read)

pub outgoing_none : {L : Type 0} (Takes : L → Outgoing → L → Type 0) (left : Option (List ℕ)) (lines : L)
    → AreSendingsListed Takes [] [] left left lines lines
outgoing_none Takes left lines = record {
  read = record { each = tt; order = tt; octets = Consumes-nil left };
  given = record { reads = []; listed = tt; given = refl };
}

-- where a record in its order was read and given behind the others, all of them were listed
pub outgoing_more : {L : Type 0} (Takes : L → Outgoing → L → Type 0) (sendings : List Sending) (datagram : List ℕ)
    (read : Outgoing) (a b c : Option (List ℕ)) (d e f : L) → AreSendingsListed Takes sendings [] a b d e → Keeps read datagram
    → IsSending (sending_of read datagram) → last_frame 0 sendings ≤ read.frame
    → Consumes b c (sending_octets (sending_of read datagram)) → Takes e read f
    → AreSendingsListed Takes (sendings ++ sending_of read datagram ∷ []) [] a c d f
outgoing_more Takes sendings datagram read a b c d e f listed keeps is_sending behind took takes =
    let next = sending_of read datagram in
    let one : sendings_octets (sendings ++ next ∷ []) ≡ sendings_octets sendings ++ sending_octets next =
    flat_map-append sending_octets sendings (next ∷ []) ∙ ap (λ l. sendings_octets sendings ++ l) (append-nil (sending_octets
    next)) in
    record {
      read = record {
        each = All-push IsSending sendings next listed.read.each is_sending;
        order = order_more 0 sendings next listed.read.order behind;
        octets = subst (Consumes a c) (sym (append-nil (sendings_octets (sendings ++ next ∷ [])) ∙ one))
            (Consumes-trans a b c _ _ (subst (Consumes a b) (append-nil (sendings_octets sendings)) listed.read.octets) took);
      };
      given = record {
        reads = listed.given.reads ++ read ∷ [];
        listed = reads_more sendings listed.given.reads next read listed.given.listed (record { fields = refl; keeps = keeps });
        given = given_one_more Takes d e f listed.given.reads read listed.given.given takes;
      };
    }

-- some octets more, and no line
pub outgoing_part : (sendings : List Sending) (part : List ℕ) (a b c : Option (List ℕ)) → AreSendingsRead sendings [] a b
    → Consumes b c part → AreSendingsRead sendings part a c
outgoing_part sendings part a b c read took = record {
  each = read.each;
  order = read.order;
  octets = Consumes-trans a b c _ part (subst (Consumes a b) (append-nil (sendings_octets sendings)) read.octets) took;
}

-- the tag and the fields have nine octets
sending_long : (s : Sending) → length (sending_octets s) ≡ 9 + length s.datagram
sending_long s = omega arith

-- behind a record more, the next one begins nine octets and a datagram further on
pub outgoing_octets_more : (sendings : List Sending) (next : Sending) (octet : ℕ) → octet ≡ octet_behind sending_octets sendings
    → octet + (9 + length next.datagram) ≡ octet_behind sending_octets (sendings ++ next ∷ [])
outgoing_octets_more sendings next octet e =
    let whole = ap length (flat_map-append sending_octets sendings (next ∷ []) ∙ ap (λ l. sendings_octets sendings ++ l)
    (append-nil (sending_octets next))) in
    omega (arith, e, whole, length-append (sendings_octets sendings) (sending_octets next), sending_long next)
