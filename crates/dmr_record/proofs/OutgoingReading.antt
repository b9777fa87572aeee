-- An outgoing file has one reading: a record, the end, or the one fault that it has.
use Rattle.std.proofs.Common.{◌≡◌, ℕ, ◌<◌, ◌≤◌, inl, inr, leb, ltb, eqb, cond, Bool, true, false, ◌&&◌, ◌||◌}
use Rattle.std.proofs.Common.{List, [], ◌∷◌, ◌++◌, length, get_or, take, drop, Option, Some, None, refl, ap, ◌∙◌, arith}
use Rattle.std.specs.Prelude.{Result, Ok, Err}
use Rattle.std.proofs.lemmas.Bool.{le-leb, lt-leb, lt-ltb, le-ltb, ne_eqb, true≢false, cases_lt, and_left, and_right}
use Rattle.std.proofs.lemmas.List.{take_at, drop_at, length-append}
use Rattle.byteorder.specs.Endian.{big_bytes, big_number}
use Rattle.byteorder.specs.Numbers.{big_number-reads_back}
use Rattle.dmr_record.specs.declared.fault.RecordFault.{RecordFault}
use Rattle.dmr_record.specs.declared.fault.RecordFault.TheVariants.{CutRecord, BadTag, FrameOrder, TooLong, Read}
use Rattle.dmr_record.specs.Faults.{is_of_end, is_device_fault}
use Rattle.dmr_record.specs.Outgoing.{OutgoingFields, outgoing_field_octets, FitsOutgoing, IsSlotAndMode, Sending}
use Rattle.dmr_record.specs.Outgoing.{IsSending, mode_of, sending_octets, ShowsOutgoingFault}
use Rattle.dmr_record.specs.Spelling.{IsPrefixCode}
use Rattle.dmr_record.proofs.Readings.{same_answer}

is_place : ℕ → ℕ → Bool
is_place slot mode = (eqb slot 1 || eqb slot 2) && ltb mode 4

abbrev fields : ℕ → ℕ → ℕ → ℕ → OutgoingFields
fields frame slot mode count = record { frame = frame; slot = slot; mode = mode; count = count }

abbrev sending : ℕ → ℕ → Bool → Bool → List ℕ → Sending
sending frame slot confirmed full datagram = record {
  frame = frame;
  slot = slot;
  confirmed = confirmed;
  full = full;
  datagram =
      datagram;
}

sending_from : OutgoingFields → List ℕ → Sending
sending_from f datagram = sending f.frame f.slot (eqb f.mode 1 || eqb f.mode 3) (leb 2 f.mode) datagram

-- what a text behind these fields is read as
sending_behind : ℕ → OutgoingFields → List ℕ → Result (Option (Sending × List ℕ)) RecordFault
sending_behind last f text =
    cond (is_place f.slot f.mode)
    (cond (ltb f.frame last) (Err FrameOrder)
    (cond (leb f.count (length text)) (Ok (Some (sending_from f (take f.count text), drop f.count text))) (Err CutRecord)))
    (Err BadTag)

fields_at : List ℕ → OutgoingFields
fields_at text = fields (big_number 4 text) (get_or text 4 0) (get_or text 5 0) (big_number 2 (drop 6 text))

fields_behind : ℕ → List ℕ → Result (Option (Sending × List ℕ)) RecordFault
fields_behind last text = cond (leb 8 (length text)) (sending_behind last (fields_at text) (drop 8 text)) (Err CutRecord)

-- what a text is read as, with so many records before it, the last of which has this frame
pub sending_at : ℕ → ℕ → ℕ → List ℕ → Result (Option (Sending × List ℕ)) RecordFault
sending_at limit before last [] = Ok None
sending_at limit before last (tag ∷ text) = cond (leb limit before) (Err TooLong) (cond (eqb tag 2) (fields_behind last text) (Err
    BadTag))

-- where no octets are left, the outgoing file is read as ended
pub sending_at-end : (limit before last : ℕ) → sending_at limit before last [] ≡ Ok None
unfolding sending_at
sending_at-end limit before last = refl

is_place-true : (slot mode : ℕ) → IsSlotAndMode slot mode → is_place slot mode ≡ true
unfolding is_place
is_place-true slot mode (inl one, low) = rw (one, lt-ltb mode 4 low) refl
is_place-true slot mode (inr two, low) = rw (two, lt-ltb mode 4 low) refl

is_place-false : (slot mode : ℕ) → (IsSlotAndMode slot mode → ⊥) → is_place slot mode ≡ false
unfolding is_place
is_place-false slot mode misses =
    elim (cases_lt mode 4) [
      | inl low ↦ and_left (eqb slot 1 || eqb slot 2) (ltb mode 4) (rw (
        ne_eqb slot 1 (λ e. misses (inl e, low)),
        ne_eqb slot 2
            (λ e. misses (inr e, low)),
      ) refl)
      | inr high ↦ and_right (eqb slot 1 || eqb slot 2) (ltb mode 4) (le-ltb mode 4 high)
    ]

fields_at-spelled : (f : OutgoingFields) (rest : List ℕ) → FitsOutgoing f → fields_at (outgoing_field_octets f ++ rest) ≡ f
unfolding fields_at
fields_at-spelled f rest fit =
    let frame = big_number-reads_back 4 f.frame (f.slot ∷ f.mode ∷ (big_bytes 2 f.count ++ rest)) fit.frame in
    let count = big_number-reads_back 2 f.count rest fit.count in
    ap (λ n. fields n f.slot f.mode (big_number 2 (big_bytes 2 f.count ++ rest))) frame ∙ ap (λ n. fields f.frame f.slot f.mode n)
    count

mode_back : (confirmed full : Bool) → ((eqb (mode_of confirmed full) 1 || eqb (mode_of confirmed full) 3) ≡ confirmed)
    × (leb 2 (mode_of confirmed full) ≡ full) × (mode_of confirmed full < 4)
mode_back true true = (refl, refl, omega arith)
mode_back true false = (refl, refl, omega arith)
mode_back false true = (refl, refl, omega arith)
mode_back false false = (refl, refl, omega arith)

-- the fields of a record, as `sending_octets` has them
abbrev outgoing_fields : Sending → OutgoingFields
outgoing_fields s = record { frame = s.frame; slot = s.slot; mode = mode_of s.confirmed s.full; count = length s.datagram }

sending_back : (s : Sending) → sending_from (outgoing_fields s) s.datagram ≡ s
unfolding sending_from
sending_back s =
    let (confirmed, full, low) = mode_back s.confirmed s.full in
    ap (λ c. sending s.frame s.slot c (leb 2 (mode_of s.confirmed s.full)) s.datagram) confirmed ∙ ap (λ f. sending s.frame s.slot
    s.confirmed f s.datagram) full

-- where fields come behind a tag
sending_at-fields : (limit before last : ℕ) (f : OutgoingFields) (text : List ℕ) → before < limit → FitsOutgoing f
    → sending_at limit before last (2 ∷ (outgoing_field_octets f ++ text)) ≡ sending_behind last f text
unfolding sending_at fields_behind
sending_at-fields limit before last f text below fit =
    let long : leb 8 (length (outgoing_field_octets f ++ text))
    ≡ true = le-leb 8 (length (outgoing_field_octets f ++ text)) (omega (
      arith,
      length-append (outgoing_field_octets f) text,
    )) in
    rw (lt-leb limit before below, long) (ap (λ g. sending_behind last g text) (fields_at-spelled f text fit))

-- a record that a text begins with is read
pub sending_at-spelled : (limit before last : ℕ) (s : Sending) (rest : List ℕ) → before < limit → last ≤ s.frame → IsSending s
    → sending_at limit before last (sending_octets s ++ rest) ≡ Ok (Some (s, rest))
unfolding sending_behind
sending_at-spelled limit before last s rest below order is =
    let (confirmed, full, low) = mode_back s.confirmed s.full in
    let fit : FitsOutgoing (outgoing_fields s) = record { frame = is.frame; count = is.datagram } in
    let long : leb (length s.datagram) (length (s.datagram ++ rest)) ≡ true = le-leb _ _ (omega (
      arith,
      length-append s.datagram
          rest,
    )) in
    sending_at-fields limit before last (outgoing_fields s) (s.datagram ++ rest) below fit
    ∙ rw (
      is_place-true s.slot (mode_of s.confirmed s.full) (is.slot, low),
      le-ltb s.frame last order,
      long,
      take_at s.datagram rest (length s.datagram) refl,
      drop_at s.datagram rest (length s.datagram) refl,
      sending_back s,
    ) refl

-- a fault that a text has is told
pub sending_at-shown : (limit before last : ℕ) (e : RecordFault) (taken rest : List ℕ) → ShowsOutgoingFault limit before last e
    taken → is_device_fault e ≡ false
    → (is_of_end e ≡ true → rest ≡ []) → sending_at limit before last (taken ++ rest) ≡ Err e
unfolding sending_at fields_behind sending_behind
sending_at-shown limit before last Read taken rest shows own end = absurd (true≢false own)
sending_at-shown limit before last TooLong [] rest (past, one) own end = absurd (omega arith)
sending_at-shown limit before last TooLong (t ∷ ts) rest (past, one) own end = rw (le-leb limit before past) refl
sending_at-shown limit before last BadTag taken rest (below, inl (tag, other, s)) own end = rw (
  s,
  lt-leb limit before below,
  ne_eqb tag 2 other,
) refl
sending_at-shown limit before last BadTag taken rest (below, inr (f, fit, misses, s)) own end =
    ap (λ l. sending_at limit before last (l ++ rest)) s ∙ sending_at-fields limit before last f rest below fit
    ∙ rw (is_place-false f.slot f.mode misses) refl
sending_at-shown limit before last FrameOrder taken rest (below, f, fit, place, earlier, s) own end =
    ap (λ l. sending_at limit before last (l ++ rest)) s ∙ sending_at-fields limit before last f rest below fit
    ∙ rw (is_place-true f.slot f.mode place, lt-ltb f.frame last earlier) refl
sending_at-shown limit before last CutRecord taken rest (below, some, inl none) own end = absurd (some none)
sending_at-shown limit before last CutRecord taken rest (below, some, inr (inl (part, few, s))) own end =
    let short : leb 8 (length (part ++ [])) ≡ false = lt-leb 8 (length (part ++ [])) (omega (arith, length-append part [])) in
    rw (s, end refl, lt-leb limit before below, short) refl
sending_at-shown limit before last CutRecord taken rest (below, some, inr (inr (f, part, fit, place, order, few, s))) own end =
    let short : leb f.count (length (part ++ [])) ≡ false = lt-leb f.count (length (part ++ [])) (omega (
      arith,
      length-append part
          [],
    )) in
    ap (λ l. sending_at limit before last (l ++ rest)) s
    ∙ ap (λ r. sending_at limit before last (2 ∷ (outgoing_field_octets f ++ (part ++
    r)))) (end refl)
    ∙ sending_at-fields limit before last f (part ++ []) below fit
    ∙ rw (is_place-true f.slot f.mode place, le-ltb f.frame last order, short) refl
sending_at-shown limit before last e taken rest shows own end = absurd shows

-- each record of an outgoing file has octets, which aren't the front of any other's
pub sending_code : IsPrefixCode IsSending sending_octets
sending_code = record {
  begins = λ x rest p e. (cc);
  one = λ x y a b p q e.
      same_answer x y a b (sending_at 1 0 0 (sending_octets x ++ a)) (sending_at-spelled 1 0 0 x a (omega arith) (omega arith) p)
      (ap (sending_at 1 0 0) e ∙ sending_at-spelled 1 0 0 y b (omega arith) (omega arith) q);
}
