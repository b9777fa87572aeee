-- Records are the same exactly where they are equal.
use Rattle.std.proofs.Common.{◌≡◌, ℕ, ◌+◌, ◌-◌, ◌==◌, ◌&&◌, Bool, true, false, List, [], ◌∷◌, length, map, refl, sym, ap, ◌∙◌}
use Rattle.std.proofs.Common.{arith, ◌++◌}
use Rattle.std.proofs.lemmas.Bool.{and_parts, false≢true}
use Rattle.std.proofs.lemmas.List.Concat.{flat_map-cons}
use Rattle.dmr_compare.proofs.Equal.{both_true, equal_numbers, lists_equal, none_different, same_number}
use Rattle.dmr_compare.specs.Counting.{different_places}
use Rattle.dmr_compare.specs.ListRecords.{ListRecord, OfOutgoing, OfReceived, differing_octets, has_same_fields}
use Rattle.dmr_compare.specs.ListRecords.{is_same_record, record_octets, list_octets}
use Rattle.dmr_record.specs.Outgoing.{Sending, mode_of, sending_octets, sendings_octets}
use Rattle.dmr_record.specs.Received.{Receipt, kind_octet, receipt_octets, receipts_octets}
use Rattle.dmr_record.specs.declared.received.ReceivedKind.{ReceivedKind}
use Rattle.dmr_record.specs.declared.received.ReceivedKind.TheVariants.{Datagram, ShortData, Status}

-- 1. Octets.

-- whether two octets are the same
abbrev pub is_same_octet : ℕ → ℕ → Bool
is_same_octet x y = x == y

-- octets of which none differs are equal
pub octets_equal : (xs ys : List ℕ) → differing_octets xs ys ≡ 0 → xs ≡ ys
octets_equal xs ys e =
    let sum : different_places is_same_octet xs ys + (length xs - length ys) + (length ys - length xs) ≡ 0 = e in
    lists_equal is_same_octet equal_numbers xs ys (omega (arith, sum)) (omega (arith, sum))

-- no octet differs of equal ones
pub none_differs : (xs : List ℕ) → differing_octets xs xs ≡ 0
none_differs xs =
    let none : different_places is_same_octet xs xs ≡ 0 = none_different is_same_octet same_number xs in
    let sum : different_places is_same_octet xs xs + (length xs - length xs) + (length xs - length xs) ≡ 0 = omega (arith, none) in
    sum

-- 2. Fields.

-- one octet says one mode
pub one_mode : (a b c d : Bool) → (mode_of a b == mode_of c d) ≡ true → (a ≡ c) × (b ≡ d)
one_mode true true true true e = (refl, refl)
one_mode true true true false e = absurd (false≢true e)
one_mode true true false true e = absurd (false≢true e)
one_mode true true false false e = absurd (false≢true e)
one_mode true false true true e = absurd (false≢true e)
one_mode true false true false e = (refl, refl)
one_mode true false false true e = absurd (false≢true e)
one_mode true false false false e = absurd (false≢true e)
one_mode false true true true e = absurd (false≢true e)
one_mode false true true false e = absurd (false≢true e)
one_mode false true false true e = (refl, refl)
one_mode false true false false e = absurd (false≢true e)
one_mode false false true true e = absurd (false≢true e)
one_mode false false true false e = absurd (false≢true e)
one_mode false false false true e = absurd (false≢true e)
one_mode false false false false e = (refl, refl)

-- and one kind
pub one_kind : (k l : ReceivedKind) → (kind_octet k == kind_octet l) ≡ true → k ≡ l
one_kind Datagram Datagram e = refl
one_kind Datagram ShortData e = absurd (false≢true e)
one_kind Datagram Status e = absurd (false≢true e)
one_kind ShortData Datagram e = absurd (false≢true e)
one_kind ShortData ShortData e = refl
one_kind ShortData Status e = absurd (false≢true e)
one_kind Status Datagram e = absurd (false≢true e)
one_kind Status ShortData e = absurd (false≢true e)
one_kind Status Status e = refl

-- an outgoing record of these
abbrev sending : ℕ → ℕ → Bool → Bool → List ℕ → Sending
sending frame slot confirmed full datagram =
    record { frame = frame; slot = slot; confirmed = confirmed; full = full; datagram = datagram }

-- outgoing records are equal where each part of them is
sendings_by_parts : (x y : Sending) → x.frame ≡ y.frame → x.slot ≡ y.slot → x.confirmed ≡ y.confirmed → x.full ≡ y.full
    → x.datagram ≡ y.datagram → x ≡ y
sendings_by_parts x y frames slots confirmed full datagrams =
    ap (λ n. sending n x.slot x.confirmed x.full x.datagram) frames
    ∙ ap (λ n. sending y.frame n x.confirmed x.full x.datagram) slots
    ∙ ap (λ b. sending y.frame y.slot b x.full x.datagram) confirmed
    ∙ ap (λ b. sending y.frame y.slot y.confirmed b x.datagram) full
    ∙ ap (λ l. sending y.frame y.slot y.confirmed y.full l) datagrams

-- a received record of these
abbrev receipt : ℕ → ℕ → ReceivedKind → ℕ → List ℕ → Receipt
receipt frame slot kind source octets =
    record { frame = frame; slot = slot; kind = kind; source = source; octets = octets }

-- received records are equal where each part of them is
receipts_by_parts : (x y : Receipt) → x.frame ≡ y.frame → x.slot ≡ y.slot → x.kind ≡ y.kind → x.source ≡ y.source
    → x.octets ≡ y.octets → x ≡ y
receipts_by_parts x y frames slots kinds sources octets =
    ap (λ n. receipt n x.slot x.kind x.source x.octets) frames
    ∙ ap (λ n. receipt y.frame n x.kind x.source x.octets) slots
    ∙ ap (λ k. receipt y.frame y.slot k x.source x.octets) kinds
    ∙ ap (λ n. receipt y.frame y.slot y.kind n x.octets) sources
    ∙ ap (λ l. receipt y.frame y.slot y.kind y.source l) octets

-- 3. Records.

-- records that are the same are equal
pub records_equal : (x y : ListRecord) → is_same_record x y ≡ true → x ≡ y
records_equal (OfOutgoing x) (OfOutgoing y) e =
    let whole = and_parts (has_same_fields (OfOutgoing x) (OfOutgoing y)) (differing_octets x.datagram y.datagram == 0) e in
    let modes = and_parts ((x.frame == y.frame) && (x.slot == y.slot)) (mode_of x.confirmed x.full == mode_of y.confirmed y.full)
    whole.0 in
    let places = and_parts (x.frame == y.frame) (x.slot == y.slot) modes.0 in
    let mode = one_mode x.confirmed x.full y.confirmed y.full modes.1 in
    ap OfOutgoing (sendings_by_parts x y (equal_numbers x.frame y.frame places.0) (equal_numbers x.slot y.slot places.1) mode.0
    mode.1 (octets_equal x.datagram y.datagram (equal_numbers _ _ whole.1)))
records_equal (OfOutgoing x) (OfReceived y) e = absurd (false≢true e)
records_equal (OfReceived x) (OfOutgoing y) e = absurd (false≢true e)
records_equal (OfReceived x) (OfReceived y) e =
    let whole = and_parts (has_same_fields (OfReceived x) (OfReceived y)) (differing_octets x.octets y.octets == 0) e in
    let sources = and_parts ((x.frame == y.frame) && (x.slot == y.slot) && (kind_octet x.kind == kind_octet y.kind))
    (x.source == y.source) whole.0 in
    let kinds = and_parts ((x.frame == y.frame) && (x.slot == y.slot)) (kind_octet x.kind == kind_octet y.kind) sources.0 in
    let places = and_parts (x.frame == y.frame) (x.slot == y.slot) kinds.0 in
    ap OfReceived (receipts_by_parts x y (equal_numbers x.frame y.frame places.0) (equal_numbers x.slot y.slot places.1)
    (one_kind x.kind y.kind kinds.1) (equal_numbers x.source y.source sources.1)
    (octets_equal x.octets y.octets (equal_numbers _ _ whole.1)))

-- a record is the same as itself
pub same_as_itself : (x : ListRecord) → is_same_record x x ≡ true
same_as_itself (OfOutgoing x) =
    both_true (has_same_fields (OfOutgoing x) (OfOutgoing x)) (differing_octets x.datagram x.datagram == 0)
    (both_true ((x.frame == x.frame) && (x.slot == x.slot)) (mode_of x.confirmed x.full == mode_of x.confirmed x.full)
    (both_true (x.frame == x.frame) (x.slot == x.slot) (same_number x.frame) (same_number x.slot))
    (same_number (mode_of x.confirmed x.full)))
    (ap (λ n. n == 0) (none_differs x.datagram))
same_as_itself (OfReceived x) =
    both_true (has_same_fields (OfReceived x) (OfReceived x)) (differing_octets x.octets x.octets == 0)
    (both_true ((x.frame == x.frame) && (x.slot == x.slot) && (kind_octet x.kind == kind_octet x.kind)) (x.source == x.source)
    (both_true ((x.frame == x.frame) && (x.slot == x.slot)) (kind_octet x.kind == kind_octet x.kind)
    (both_true (x.frame == x.frame) (x.slot == x.slot) (same_number x.frame) (same_number x.slot))
    (same_number (kind_octet x.kind)))
    (same_number x.source))
    (ap (λ n. n == 0) (none_differs x.octets))

-- 4. Lists of one kind.

-- outgoing records have the octets that their list has
pub octets_of_sendings : (sendings : List Sending) → list_octets (map OfOutgoing sendings) ≡ sendings_octets sendings
octets_of_sendings [] = refl
octets_of_sendings (s ∷ ss) =
    flat_map-cons record_octets (OfOutgoing s) (map OfOutgoing ss) ∙ ap (λ l. sending_octets s ++ l) (octets_of_sendings ss)
    ∙ sym (flat_map-cons sending_octets s ss)

-- and so have received ones
pub octets_of_receipts : (receipts : List Receipt) → list_octets (map OfReceived receipts) ≡ receipts_octets receipts
octets_of_receipts [] = refl
octets_of_receipts (r ∷ rs) =
    flat_map-cons record_octets (OfReceived r) (map OfReceived rs) ∙ ap (λ l. receipt_octets r ++ l) (octets_of_receipts rs)
    ∙ sym (flat_map-cons receipt_octets r rs)

-- the outgoing ones among records
abbrev sendings_in : List ListRecord → List Sending
sendings_in [] = []
sendings_in (OfOutgoing s ∷ records) = s ∷ sendings_in records
sendings_in (OfReceived r ∷ records) = sendings_in records

sendings_back : (sendings : List Sending) → sendings_in (map OfOutgoing sendings) ≡ sendings
sendings_back [] = refl
sendings_back (s ∷ ss) = ap (λ l. s ∷ l) (sendings_back ss)

-- lists of outgoing records are one where the records are
pub one_of_sendings : (ss ts : List Sending) → map OfOutgoing ss ≡ map OfOutgoing ts → ss ≡ ts
one_of_sendings ss ts e = sym (sendings_back ss) ∙ ap sendings_in e ∙ sendings_back ts

-- the received ones among records
abbrev receipts_in : List ListRecord → List Receipt
receipts_in [] = []
receipts_in (OfOutgoing s ∷ records) = receipts_in records
receipts_in (OfReceived r ∷ records) = r ∷ receipts_in records

receipts_back : (receipts : List Receipt) → receipts_in (map OfReceived receipts) ≡ receipts
receipts_back [] = refl
receipts_back (r ∷ rs) = ap (λ l. r ∷ l) (receipts_back rs)

-- lists of received records are one where the records are
pub one_of_receipts : (rs ts : List Receipt) → map OfReceived rs ≡ map OfReceived ts → rs ≡ ts
one_of_receipts rs ts e = sym (receipts_back rs) ∙ ap receipts_in e ∙ receipts_back ts
