-- The lines of a outgoing list go on, record by record.
use Rattle.std.proofs.Common.{◌≡◌, ℕ, ◌+◌, ◌≤◌, List, [], ◌∷◌, ◌++◌, length, Option, refl, sym, ap, ◌∙◌, subst, arith, append-nil}
use Rattle.std.proofs.ByRecursion.{All-push}
use Rattle.std.proofs.lemmas.List.{length-append}
use Rattle.std.proofs.lemmas.List.Concat.{flat_map-append}
use Rattle.dmr_recording.specs.Places.{octet_behind}
use Rattle.std.specs.Io.KnownBytes.{Appends, Consumes}
use Rattle.std.proofs.KnownBytes.{Appends-nil, Appends-trans, Consumes-nil, Consumes-trans}
use Rattle.dmr_record.specs.Devices.{Tears}
use Rattle.dmr_record.proofs.Torn.{Tears_after}
use Rattle.dmr_record.specs.Outgoing.{AreInFrameOrder, IsSending, Sending, last_frame, sending_octets, sendings_octets}
use Rattle.dmr_text.specs.Behind.{IsReadBehind, AreLinesTorn, AreLinesWritten}
use Rattle.dmr_text.specs.Files.{records_lines}
use Rattle.dmr_text.specs.Files.File.{Sendings}
use Rattle.dmr_text.specs.Spelling.{sending_line}

-- a record of no earlier frame than the last one keeps the frames of the list in order
pub order_more : (last : ℕ) (sendings : List Sending) (next : Sending) → AreInFrameOrder last sendings
    → last_frame last sendings ≤ next.frame → AreInFrameOrder last (sendings ++ next ∷ [])
order_more last [] next order behind = (behind, tt)
order_more last (s ∷ ss) next (first, rest) behind = (first, order_more s.frame ss next rest behind)

-- the frame of the last record
pub last_more : (last : ℕ) (sendings : List Sending) (next : Sending) → last_frame last (sendings ++ next ∷ []) ≡ next.frame
last_more last [] next = refl
last_more last (s ∷ ss) next = last_more s.frame ss next

-- the octets of a record more stand behind those of the list
pub octets_more : (sendings : List Sending) (next : Sending)
    → sendings_octets (sendings ++ next ∷ []) ≡ sendings_octets sendings ++ sending_octets next
octets_more sendings next =
    flat_map-append sending_octets sendings (next ∷ [])
    ∙ ap (λ l. sendings_octets sendings ++ l) (append-nil (sending_octets next))

-- the tag and the fields have nine octets
sending_long : (s : Sending) → length (sending_octets s) ≡ 9 + length s.datagram
sending_long s = omega arith

-- where the next record begins
pub octets_behind_more : (sendings : List Sending) (next : Sending) (octet : ℕ) → octet ≡ octet_behind sending_octets sendings
    → octet + (9 + length next.datagram) ≡ octet_behind sending_octets (sendings ++ next ∷ [])
octets_behind_more sendings next octet e =
    let whole = ap length (octets_more sendings next) in
    omega (arith, e, whole, length-append (sendings_octets sendings) (sending_octets next), sending_long next)

lines_more : (sendings : List Sending) (next : Sending)
    → records_lines (Sendings (sendings ++ next ∷ [])) ≡ records_lines (Sendings sendings) ++ sending_line next
lines_more sendings next =
    flat_map-append sending_line sendings (next ∷ [])
    ∙ ap (λ l. records_lines (Sendings sendings) ++ l) (append-nil (sending_line next))

pub sendings_none : (left held : Option (List ℕ)) → AreLinesWritten (Sendings []) left left held held
sendings_none left held = record {
  read = record { records = (tt, tt); octets = Consumes-nil left };
  text = Appends-nil held;
}

-- some octets more were read
pub sendings_part : (sendings : List Sending) (part : List ℕ) (a b c : Option (List ℕ))
    → IsReadBehind (Sendings sendings) [] a b → Consumes b c part → IsReadBehind (Sendings sendings) part a c
sendings_part sendings part a b c read took = record {
  records = read.records;
  octets = Consumes-trans a b c _ part (subst (Consumes a b) (append-nil (sendings_octets sendings)) read.octets) took;
}

-- a record more was read
sending_read : (sendings : List Sending) (next : Sending) (a b c : Option (List ℕ))
    → IsReadBehind (Sendings sendings) [] a b → IsSending next → last_frame 0 sendings ≤ next.frame
    → Consumes b c (sending_octets next) → IsReadBehind (Sendings (sendings ++ next ∷ [])) [] a c
sending_read sendings next a b c read is_sending behind took =
    let (each, order) = read.records in
    record {
      records = (All-push IsSending sendings next each is_sending, order_more 0 sendings next order behind);
      octets = subst (Consumes a c) (sym (append-nil (sendings_octets (sendings ++ next ∷ [])) ∙ octets_more sendings next))
          (Consumes-trans a b c _ _ (subst (Consumes a b) (append-nil (sendings_octets sendings)) read.octets) took);
    }

-- where a record in its order was read and its line written, so are the lines of the list with it
pub sending_written : (sendings : List Sending) (next : Sending) (a b c d e f : Option (List ℕ))
    → AreLinesWritten (Sendings sendings) a b d e → IsSending next → last_frame 0 sendings ≤ next.frame
    → Consumes b c (sending_octets next) → Appends e f (sending_line next)
    → AreLinesWritten (Sendings (sendings ++ next ∷ [])) a c d f
sending_written sendings next a b c d e f written is_sending behind took more = record {
  read = sending_read sendings next a b c written.read is_sending behind took;
  text = subst (Appends d f) (sym (lines_more sendings next)) (Appends-trans d e f _ _ written.text more);
}

-- the same, where its line was torn: so are the lines of the list with it
pub sending_torn : (sendings : List Sending) (next : Sending) (a b c d e f : Option (List ℕ))
    → AreLinesWritten (Sendings sendings) a b d e → IsSending next → last_frame 0 sendings ≤ next.frame
    → Consumes b c (sending_octets next) → Tears e f (sending_line next)
    → AreLinesTorn (Sendings (sendings ++ next ∷ [])) a c d f
sending_torn sendings next a b c d e f written is_sending behind took torn = record {
  read = sending_read sendings next a b c written.read is_sending behind took;
  text = subst (Tears d f) (sym (lines_more sendings next)) (Tears_after d e f _ _ written.text torn);
}
