-- The lines of a received list go on, record by record.
use Rattle.std.proofs.Common.{◌≡◌, ℕ, ◌+◌, List, [], ◌∷◌, ◌++◌, length, Option, None, Some, refl, sym, ap, ◌∙◌, subst, arith}
use Rattle.std.proofs.Common.{append-nil}
use Rattle.std.proofs.ByRecursion.{All-push}
use Rattle.std.proofs.lemmas.List.{length-append}
use Rattle.std.proofs.lemmas.List.Concat.{flat_map-append}
use Rattle.dmr_recording.specs.Places.{octet_behind}
use Rattle.std.specs.Io.KnownBytes.{Appends, Consumes}
use Rattle.std.proofs.KnownBytes.{Appends-nil, Appends-trans, Consumes-nil, Consumes-trans}
use Rattle.dmr_record.specs.Received.{last_fields}
use Rattle.dmr_record.specs.Devices.{Tears}
use Rattle.dmr_record.proofs.Torn.{Tears_after}
use Rattle.dmr_record.specs.Received.{FollowEachOther, Follows, IsReadable, Receipt, ReceivedFields, received_fields}
use Rattle.dmr_record.specs.Received.{receipt_octets}
use Rattle.dmr_record.specs.Received.{receipts_octets}
use Rattle.dmr_text.specs.Behind.{IsReadBehind, AreLinesTorn, AreLinesWritten}
use Rattle.dmr_text.specs.Files.{records_lines}
use Rattle.dmr_text.specs.Files.File.{Receipts}
use Rattle.dmr_text.specs.Spelling.{receipt_line}

-- a record that may follow the last one keeps the list in its order
pub order_more : (last : Option ReceivedFields) (receipts : List Receipt) (next : Receipt) → FollowEachOther last receipts
    → Follows (last_fields last receipts) (received_fields next) → FollowEachOther last (receipts ++ next ∷ [])
order_more last [] next order follows = (follows, tt)
order_more last (r ∷ rs) next (first, rest) follows = (first, order_more (Some (received_fields r)) rs next rest follows)

-- the octets of a record more stand behind those of the list
pub octets_more : (receipts : List Receipt) (next : Receipt)
    → receipts_octets (receipts ++ next ∷ []) ≡ receipts_octets receipts ++ receipt_octets next
octets_more receipts next =
    flat_map-append receipt_octets receipts (next ∷ [])
    ∙ ap (λ l. receipts_octets receipts ++ l) (append-nil (receipt_octets next))

-- the fields of the last record
pub last_more : (last : Option ReceivedFields) (receipts : List Receipt) (next : Receipt) → last_fields last (receipts ++ next ∷ [])
    ≡ Some (received_fields next)
last_more last [] next = refl
last_more last (r ∷ rs) next = last_more (Some (received_fields r)) rs next

-- the tag and the fields have twelve octets
receipt_long : (r : Receipt) → length (receipt_octets r) ≡ 12 + length r.octets
receipt_long r = omega arith

-- where the next record begins
pub octets_behind_more : (receipts : List Receipt) (next : Receipt) (octet : ℕ) → octet ≡ octet_behind receipt_octets receipts
    → octet + (12 + length next.octets) ≡ octet_behind receipt_octets (receipts ++ next ∷ [])
octets_behind_more receipts next octet e =
    let whole = ap length (octets_more receipts next) in
    omega (arith, e, whole, length-append (receipts_octets receipts) (receipt_octets next), receipt_long next)

lines_more : (receipts : List Receipt) (next : Receipt)
    → records_lines (Receipts (receipts ++ next ∷ [])) ≡ records_lines (Receipts receipts) ++ receipt_line next
lines_more receipts next =
    flat_map-append receipt_line receipts (next ∷ [])
    ∙ ap (λ l. records_lines (Receipts receipts) ++ l) (append-nil (receipt_line next))

pub receipts_none : (left held : Option (List ℕ)) → AreLinesWritten (Receipts []) left left held held
receipts_none left held = record {
  read = record { records = (tt, tt); octets = Consumes-nil left };
  text = Appends-nil held;
}

-- some octets more were read
pub receipts_part : (receipts : List Receipt) (part : List ℕ) (a b c : Option (List ℕ))
    → IsReadBehind (Receipts receipts) [] a b → Consumes b c part → IsReadBehind (Receipts receipts) part a c
receipts_part receipts part a b c read took = record {
  records = read.records;
  octets = Consumes-trans a b c _ part (subst (Consumes a b) (append-nil (receipts_octets receipts)) read.octets) took;
}

-- a record more was read
receipt_read : (receipts : List Receipt) (next : Receipt) (a b c : Option (List ℕ))
    → IsReadBehind (Receipts receipts) [] a b → IsReadable next → Follows (last_fields None receipts) (received_fields next)
    → Consumes b c (receipt_octets next) → IsReadBehind (Receipts (receipts ++ next ∷ [])) [] a c
receipt_read receipts next a b c read readable follows took =
    let (each, order) = read.records in
    record {
      records = (All-push IsReadable receipts next each readable, order_more None receipts next order follows);
      octets = subst (Consumes a c) (sym (append-nil (receipts_octets (receipts ++ next ∷ [])) ∙ octets_more receipts next))
          (Consumes-trans a b c _ _ (subst (Consumes a b) (append-nil (receipts_octets receipts)) read.octets) took);
    }

-- where a record in its order was read and its line written, so are the lines of the list with it
pub receipt_written : (receipts : List Receipt) (next : Receipt) (a b c d e f : Option (List ℕ))
    → AreLinesWritten (Receipts receipts) a b d e → IsReadable next → Follows (last_fields None receipts) (received_fields next)
    → Consumes b c (receipt_octets next) → Appends e f (receipt_line next)
    → AreLinesWritten (Receipts (receipts ++ next ∷ [])) a c d f
receipt_written receipts next a b c d e f written readable follows took more = record {
  read = receipt_read receipts next a b c written.read readable follows took;
  text = subst (Appends d f) (sym (lines_more receipts next)) (Appends-trans d e f _ _ written.text more);
}

-- the same, where its line was torn: so are the lines of the list with it
pub receipt_torn : (receipts : List Receipt) (next : Receipt) (a b c d e f : Option (List ℕ))
    → AreLinesWritten (Receipts receipts) a b d e → IsReadable next → Follows (last_fields None receipts) (received_fields next)
    → Consumes b c (receipt_octets next) → Tears e f (receipt_line next)
    → AreLinesTorn (Receipts (receipts ++ next ∷ [])) a c d f
receipt_torn receipts next a b c d e f written readable follows took torn = record {
  read = receipt_read receipts next a b c written.read readable follows took;
  text = subst (Tears d f) (sym (lines_more receipts next)) (Tears_after d e f _ _ written.text torn);
}
