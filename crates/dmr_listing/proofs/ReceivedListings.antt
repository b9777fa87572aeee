-- What is listed of a received list goes on, record by record.
use Rattle.std.proofs.Common.{◌≡◌, ℕ, ◌+◌, List, [], ◌∷◌, ◌++◌, length, Option, None, Some, refl, sym, ap, ◌∙◌, subst}
use Rattle.std.proofs.Common.{arith, append-nil}
use Rattle.std.proofs.ByRecursion.{All-push}
use Rattle.std.proofs.lemmas.List.{length-append}
use Rattle.std.proofs.lemmas.List.Concat.{flat_map-append}
use Rattle.std.specs.Io.KnownBytes.{Consumes}
use Rattle.std.proofs.KnownBytes.{Consumes-trans, Consumes-nil}
use Rattle.dmr_record.specs.Received.{FollowEachOther, ReceivedFields, Follows, IsReadable, Receipt, received_fields}
use Rattle.dmr_record.specs.Received.{receipt_octets, receipts_octets}
use Rattle.dmr_recording.specs.Places.{octet_behind}
use Rattle.dmr_listing.specs.ReceivedListings.{AreReceiptsListed, AreReceiptsRead}
use Rattle.dmr_record.specs.Received.{last_fields}
use Rattle.dmr_listing.proofs.Listings.{given_one_more}

order_more : (last : Option ReceivedFields) (receipts : List Receipt) (next : Receipt) → FollowEachOther last receipts
    → Follows (last_fields last receipts) (received_fields next) → FollowEachOther last (receipts ++ next ∷ [])
order_more last [] next order follows = (follows, tt)
order_more last (r ∷ rs) next (first, rest) follows = (first, order_more (Some (received_fields r)) rs next rest follows)

-- with a record more at the end, the last fields are that record's
pub last_more : (last : Option ReceivedFields) (receipts : List Receipt) (next : Receipt) → last_fields last (receipts ++ next ∷ [])
    ≡ Some (received_fields next)
last_more last [] next = refl
last_more last (r ∷ rs) next = last_more (Some (received_fields r)) rs next

pub received_none : {L : Type 0} (Takes : L → Receipt → L → Type 0) (left : Option (List ℕ)) (lines : L)
    → AreReceiptsListed Takes [] [] left left lines lines
received_none Takes left lines = record { read = record { each = tt; order = tt; octets = Consumes-nil left }; given = refl }

-- where a record in its order was read and given behind the others, all of them were listed
pub received_more : {L : Type 0} (Takes : L → Receipt → L → Type 0) (receipts : List Receipt) (next : Receipt)
    (a b c : Option (List ℕ)) (d e f : L) → AreReceiptsListed Takes receipts [] a b d e → IsReadable next
    → Follows (last_fields None receipts) (received_fields next) → Consumes b c (receipt_octets next) → Takes e next f
    → AreReceiptsListed Takes (receipts ++ next ∷ []) [] a c d f
received_more Takes receipts next a b c d e f listed readable follows took takes =
    let one : receipts_octets (receipts ++ next ∷ []) ≡ receipts_octets receipts ++ receipt_octets next =
    flat_map-append receipt_octets receipts (next ∷ []) ∙ ap (λ l. receipts_octets receipts ++ l) (append-nil (receipt_octets
    next)) in
    record {
      read = record {
        each = All-push IsReadable receipts next listed.read.each readable;
        order = order_more None receipts next listed.read.order follows;
        octets = subst (Consumes a c) (sym (append-nil (receipts_octets (receipts ++ next ∷ [])) ∙ one))
            (Consumes-trans a b c _ _ (subst (Consumes a b) (append-nil (receipts_octets receipts)) listed.read.octets) took);
      };
      given = given_one_more Takes d e f receipts next listed.given takes;
    }

-- some octets more, and no line
pub received_part : (receipts : List Receipt) (part : List ℕ) (a b c : Option (List ℕ)) → AreReceiptsRead receipts [] a b
    → Consumes b c part → AreReceiptsRead receipts part a c
received_part receipts part a b c read took = record {
  each = read.each;
  order = read.order;
  octets = Consumes-trans a b c _ part (subst (Consumes a b) (append-nil (receipts_octets receipts)) read.octets) took;
}

-- the tag and the fields have twelve octets
receipt_long : (r : Receipt) → length (receipt_octets r) ≡ 12 + length r.octets
receipt_long r = omega arith

-- behind a record more, the next one begins twelve octets and the record's own octets further on
pub received_octets_more : (receipts : List Receipt) (next : Receipt) (octet : ℕ) → octet ≡ octet_behind receipt_octets receipts
    → octet + (12 + length next.octets) ≡ octet_behind receipt_octets (receipts ++ next ∷ [])
received_octets_more receipts next octet e =
    let whole = ap length (flat_map-append receipt_octets receipts (next ∷ []) ∙ ap (λ l. receipts_octets receipts ++ l)
    (append-nil (receipt_octets next))) in
    omega (arith, e, whole, length-append (receipts_octets receipts) (receipt_octets next), receipt_long next)
