-- A received file has one reading: a record, the end, or the one fault that it has.
use Rattle.std.proofs.Common.{◌≡◌, ℕ, ◌+◌, ◌<◌, ◌≤◌, ◌⊎◌, inl, inr, leb, eqb, cond, Bool, true, false, List, [], ◌∷◌, ◌++◌}
use Rattle.std.proofs.Common.{length, get_or, take, drop, Option, Some, None, refl, ap, ◌∙◌, arith}
use Rattle.std.specs.Prelude.{Result, Ok, Err}
use Rattle.std.specs.List.{AllByRecursion}
use Rattle.std.proofs.lemmas.Bool.{le-leb, lt-leb, ne_eqb, true≢false, cases_lt, cases_eq}
use Rattle.std.proofs.lemmas.List.{take_at, drop_at, length-append}
use Rattle.byteorder.specs.Endian.{big_bytes, big_number}
use Rattle.byteorder.specs.Numbers.{big_number-reads_back}
use Rattle.dmr_record.specs.declared.fault.RecordFault.{RecordFault}
use Rattle.dmr_record.specs.declared.fault.RecordFault.TheVariants.{CutRecord, BadTag, FrameOrder, TooLong, Read}
use Rattle.dmr_record.specs.declared.received.ReceivedKind.{ReceivedKind}
use Rattle.dmr_record.specs.declared.received.ReceivedKind.TheVariants.{Datagram, ShortData, Status}
use Rattle.dmr_record.specs.Faults.{is_of_end, is_device_fault, HasFault}
use Rattle.dmr_record.specs.Received.{Receipt, IsReceipt, IsReadable, kind_octet, receipt_octets, receipts_octets}
use Rattle.dmr_record.specs.Received.{ShowsReceivedFault}
use Rattle.dmr_record.specs.Received.{ReceivedFields, received_field_octets, FitsReceived, IsSlot, IsSlotAndKind, IsBehind, Follows}
use Rattle.dmr_record.specs.Received.{FollowEachOther, received_fields}
use Rattle.dmr_record.proofs.Readings.{no_fault_read}
use Rattle.dmr_record.proofs.ReceivedLemmas.{kind_octet-low}

-- whether a statement that is true or not is true
told : {P : Type 0} → P ⊎ (P → ⊥) → Bool
told (inl holds) = true
told (inr fails) = false

told-yes : {P : Type 0} (d : P ⊎ (P → ⊥)) → P → told d ≡ true
unfolding told
told-yes (inl holds) p = refl
told-yes (inr fails) p = absurd (fails p)

told-no : {P : Type 0} (d : P ⊎ (P → ⊥)) → (P → ⊥) → told d ≡ false
unfolding told
told-no (inl holds) not = absurd (not holds)
told-no (inr fails) not = refl

is_slot : (slot : ℕ) → IsSlot slot ⊎ (IsSlot slot → ⊥)
is_slot slot =
    elim (cases_eq slot 1) [
      | inl one ↦ inl (inl one)
      | inr other ↦ elim (cases_eq slot 2) [
        | inl two ↦ inl (inr two)
        | inr neither ↦ inr (λ h. elim h [ inl one ↦ other one | inr two ↦ neither two ])
      ]
    ]

is_place : (slot kind : ℕ) → IsSlotAndKind slot kind ⊎ (IsSlotAndKind slot kind → ⊥)
is_place slot kind =
    elim (is_slot slot) [
      | inr fails ↦ inr (λ h. fails h.0)
      | inl holds ↦ elim (cases_lt kind 3) [
        | inl low ↦ inl (holds, low)
        | inr high ↦ inr (λ h. let low = h.1 in omega arith)
      ]
    ]

-- of one slot in one frame
is_packet_behind : (last f : ReceivedFields) → last.frame ≡ f.frame → last.slot ≡ f.slot → IsBehind last f ⊎ (IsBehind last f → ⊥)
is_packet_behind last f same also =
    elim (cases_eq last.kind 2) [
      | inr other ↦ inr (λ h. other (h.kind same also).0)
      | inl status ↦ elim (cases_lt f.kind 2) [
        | inl low ↦ inl (record { frame = omega arith; slot = λ e. omega arith; kind = λ e d. (status, low) })
        | inr high ↦ inr (λ h. let low = (h.kind same also).1 in omega arith)
      ]
    ]

-- in one frame
is_slot_behind : (last f : ReceivedFields) → last.frame ≡ f.frame → IsBehind last f ⊎ (IsBehind last f → ⊥)
is_slot_behind last f same =
    elim (cases_eq last.slot f.slot) [
      | inl also ↦ is_packet_behind last f same also
      | inr apart ↦ elim (cases_lt last.slot f.slot) [
        | inl later ↦ inl (record { frame = omega arith; slot = λ e. omega arith; kind = λ e d. absurd (apart d) })
        | inr earlier ↦ inr (λ h. let order = h.slot same in apart (omega arith))
      ]
    ]

is_behind : (last f : ReceivedFields) → IsBehind last f ⊎ (IsBehind last f → ⊥)
is_behind last f =
    elim (cases_eq last.frame f.frame) [
      | inl same ↦ is_slot_behind last f same
      | inr apart ↦ elim (cases_lt last.frame f.frame) [
        | inl later ↦ inl (record { frame = omega arith; slot = λ e. absurd (apart e); kind = λ e d. absurd (apart e) })
        | inr earlier ↦ inr (λ h. let order = h.frame in apart (omega arith))
      ]
    ]

follows : (last : Option ReceivedFields) (f : ReceivedFields) → Follows last f ⊎ (Follows last f → ⊥)
follows None f = inl tt
follows (Some last) f = is_behind last f

abbrev fields : ℕ → ℕ → ℕ → ℕ → ℕ → ReceivedFields
fields frame slot kind source count = record { frame = frame; slot = slot; kind = kind; source = source; count = count }

abbrev receipt : ℕ → ℕ → ReceivedKind → ℕ → List ℕ → Receipt
receipt frame slot kind source octets = record { frame = frame; slot = slot; kind = kind; source = source; octets = octets }

kind_of : ℕ → ReceivedKind
kind_of n = cond (eqb n 0) Datagram (cond (eqb n 1) ShortData Status)

receipt_from : ReceivedFields → List ℕ → Receipt
receipt_from f octets = receipt f.frame f.slot (kind_of f.kind) f.source octets

-- what a text behind these fields is read as
receipt_behind : Option ReceivedFields → ReceivedFields → List ℕ → Result (Option (Receipt × List ℕ)) RecordFault
receipt_behind last f text =
    cond (told (is_place f.slot f.kind))
    (cond (told (follows last f))
    (cond (leb f.count (length text)) (Ok (Some (receipt_from f (take f.count text), drop f.count text))) (Err CutRecord)) (Err
    FrameOrder))
    (Err BadTag)

fields_at : List ℕ → ReceivedFields
fields_at text = fields (big_number 4 text) (get_or text 4 0) (get_or text 5 0) (big_number 3 (drop 6 text)) (big_number 2 (drop 9
    text))

fields_behind : Option ReceivedFields → List ℕ → Result (Option (Receipt × List ℕ)) RecordFault
fields_behind last text = cond (leb 11 (length text)) (receipt_behind last (fields_at text) (drop 11 text)) (Err CutRecord)

-- what a text is read as, with so many records before it, the last of which has these fields
pub receipt_at : ℕ → ℕ → Option ReceivedFields → List ℕ → Result (Option (Receipt × List ℕ)) RecordFault
receipt_at limit before last [] = Ok None
receipt_at limit before last (tag ∷ text) = cond (leb limit before) (Err TooLong) (cond (eqb tag 3) (fields_behind last text) (Err
    BadTag))

pub receipt_at-end : (limit before : ℕ) (last : Option ReceivedFields) → receipt_at limit before last [] ≡ Ok None
unfolding receipt_at
receipt_at-end limit before last = refl

fields_at-spelled : (f : ReceivedFields) (rest : List ℕ) → FitsReceived f → fields_at (received_field_octets f ++ rest) ≡ f
unfolding fields_at
fields_at-spelled f rest fit =
    let frame = big_number-reads_back 4 f.frame (f.slot ∷ f.kind ∷ (big_bytes 3 f.source ++ (big_bytes 2 f.count ++ rest)))
    fit.frame in
    let source = big_number-reads_back 3 f.source (big_bytes 2 f.count ++ rest) fit.source in
    let count = big_number-reads_back 2 f.count rest fit.count in
    ap (λ n. fields n f.slot f.kind (big_number 3 (big_bytes 3 f.source ++ (big_bytes 2 f.count ++ rest))) (big_number 2
    (big_bytes 2 f.count ++ rest))) frame
    ∙ ap (λ n. fields f.frame f.slot f.kind n (big_number 2 (big_bytes 2 f.count ++ rest))) source
    ∙ ap (λ n. fields f.frame f.slot f.kind f.source n) count

kind_back : (kind : ReceivedKind) → kind_of (kind_octet kind) ≡ kind
unfolding kind_of
kind_back Datagram = refl
kind_back ShortData = refl
kind_back Status = refl

receipt_back : (r : Receipt) → receipt_from (received_fields r) r.octets ≡ r
unfolding receipt_from
receipt_back r = ap (λ k. receipt r.frame r.slot k r.source r.octets) (kind_back r.kind)

-- where fields come behind a tag
receipt_at-fields : (limit before : ℕ) (last : Option ReceivedFields) (f : ReceivedFields) (text : List ℕ) → before < limit
    → FitsReceived f
    → receipt_at limit before last (3 ∷ (received_field_octets f ++ text)) ≡ receipt_behind last f text
unfolding receipt_at fields_behind
receipt_at-fields limit before last f text below fit =
    let long : leb 11 (length (received_field_octets f ++ text))
    ≡ true = le-leb 11 (length (received_field_octets f ++ text)) (omega (
      arith,
      length-append (received_field_octets f) text,
    )) in
    rw (lt-leb limit before below, long) (ap (λ g. receipt_behind last g text) (fields_at-spelled f text fit))

-- a record that a text begins with is read
pub receipt_at-spelled : (limit before : ℕ) (last : Option ReceivedFields) (r : Receipt) (rest : List ℕ) → before < limit
    → IsSlot r.slot
    → Follows last (received_fields r) → IsReceipt r → receipt_at limit before last (receipt_octets r ++ rest) ≡ Ok (Some (r, rest))
unfolding receipt_behind
receipt_at-spelled limit before last r rest below slot order is =
    let fit : FitsReceived (received_fields r) = record { frame = is.frame; source = is.source; count = is.octets } in
    let long : leb (length r.octets) (length (r.octets ++ rest)) ≡ true = le-leb _ _ (omega (arith, length-append r.octets rest)) in
    receipt_at-fields limit before last (received_fields r) (r.octets ++ rest) below fit
    ∙ rw (
      told-yes (is_place r.slot (kind_octet r.kind)) (slot, kind_octet-low r.kind),
      told-yes (follows last (received_fields r)) order,
      long,
      take_at r.octets rest (length r.octets) refl,
      drop_at r.octets rest (length r.octets) refl,
      receipt_back r,
    ) refl

-- a fault that a text has is told
pub receipt_at-shown : (limit before : ℕ) (last : Option ReceivedFields) (e : RecordFault) (taken rest : List ℕ)
    → ShowsReceivedFault
    limit before last e taken
    → is_device_fault e ≡ false → (is_of_end e ≡ true → rest ≡ []) → receipt_at limit before last (taken ++ rest) ≡ Err e
unfolding receipt_at fields_behind receipt_behind
receipt_at-shown limit before last Read taken rest shows own end = absurd (true≢false own)
receipt_at-shown limit before last TooLong [] rest (past, one) own end = absurd (omega arith)
receipt_at-shown limit before last TooLong (t ∷ ts) rest (past, one) own end = rw (le-leb limit before past) refl
receipt_at-shown limit before last BadTag taken rest (below, inl (tag, other, s)) own end = rw (
  s,
  lt-leb limit before below,
  ne_eqb tag 3 other,
) refl
receipt_at-shown limit before last BadTag taken rest (below, inr (f, fit, misses, s)) own end =
    ap (λ l. receipt_at limit before last (l ++ rest)) s ∙ receipt_at-fields limit before last f rest below fit
    ∙ rw (told-no (is_place f.slot f.kind) misses) refl
receipt_at-shown limit before last FrameOrder taken rest (below, f, fit, place, behind, s) own end =
    ap (λ l. receipt_at limit before last (l ++ rest)) s ∙ receipt_at-fields limit before last f rest below fit
    ∙ rw (told-yes (is_place f.slot f.kind) place, told-no (follows last f) behind) refl
receipt_at-shown limit before last CutRecord taken rest (below, some, inl none) own end = absurd (some none)
receipt_at-shown limit before last CutRecord taken rest (below, some, inr (inl (part, few, s))) own end =
    let short : leb 11 (length (part ++ [])) ≡ false = lt-leb 11 (length (part ++ [])) (omega (arith, length-append part [])) in
    rw (s, end refl, lt-leb limit before below, short) refl
receipt_at-shown limit before last CutRecord taken rest (below, some, inr (inr (f, part, fit, place, order, few, s))) own end =
    let short : leb f.count (length (part ++ [])) ≡ false = lt-leb f.count (length (part ++ [])) (omega (
      arith,
      length-append part
          [],
    )) in
    ap (λ l. receipt_at limit before last (l ++ rest)) s
    ∙ ap (λ r. receipt_at limit before last (3 ∷ (received_field_octets f ++ (part ++
    r)))) (end refl)
    ∙ receipt_at-fields limit before last f (part ++ []) below fit
    ∙ rw (told-yes (is_place f.slot f.kind) place, told-yes (follows last f) order, short) refl
receipt_at-shown limit before last e taken rest shows own end = absurd shows

-- records that follow one another have no fault, no more of them than may be
pub receipts_no_fault : (limit before : ℕ) (last : Option ReceivedFields) (receipts : List Receipt) (e : RecordFault)
    → AllByRecursion
    IsReadable receipts
    → FollowEachOther last receipts → before + length receipts ≤ limit → HasFault (ShowsReceivedFault limit before last)
    (receipts_octets receipts) e → e ≡ Read
receipts_no_fault limit before last [] e p order few has =
    no_fault_read (ShowsReceivedFault limit before last) (receipt_at limit before last) (receipt_at-shown limit before last) []
    None e
    (receipt_at-end limit before last) has
receipts_no_fault limit before last (r ∷ rs) e p order few has =
    no_fault_read (ShowsReceivedFault limit before last) (receipt_at limit before last) (receipt_at-shown limit before last)
    (receipts_octets (r ∷ rs))
    (Some (r, receipts_octets rs)) e (receipt_at-spelled limit before last r (receipts_octets rs) (omega arith) p.0.1 order.0
    p.0.0) has
