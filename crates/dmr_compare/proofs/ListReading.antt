-- What is read of a list goes on, record by record.
use Rattle.std.proofs.Common.{◌≡◌, ℕ, ◌+◌, ◌*◌, ◌<◌, ◌≤◌, Bool, true, false, List, [], ◌∷◌, ◌++◌, length, Option, None, Some}
use Rattle.std.proofs.Common.{IfNone, IfSome, refl, sym, ap, ◌∙◌, subst, arith, append-nil}
use Rattle.std.proofs.ByRecursion.{All-push}
use Rattle.std.proofs.KnownBytes.{Consumes-nil, Consumes-trans}
use Rattle.std.proofs.lemmas.List.{length-append, length-map, length_push, map-append}
use Rattle.std.proofs.lemmas.List.Concat.{flat_map-append}
use Rattle.std.specs.Io.KnownBytes.{Consumes}
use Rattle.std.specs.List.{flat_map}
use Rattle.dmr_compare.proofs.Beside.{IsStep}
use Rattle.dmr_compare.proofs.ListRecords.{octets_of_receipts, octets_of_sendings}
use Rattle.dmr_compare.specs.ListReading.{AreRecordsRead, AreRecordsReadTo, AreRecordsReadUpToFault, HasReadRecords, ShowsListFault}
use Rattle.dmr_compare.specs.ListReading.{StandsBehind, kind_behind, last_of, length_of, no_record, record_found, record_with}
use Rattle.dmr_compare.specs.ListRecords.{ListRecord, OfOutgoing, OfReceived, list_limit, record_octets}
use Rattle.dmr_compare.specs.declared.list_reader.LastRecord.{LastRecord}
use Rattle.dmr_compare.specs.declared.list_reader.LastRecord.TheVariants as last
use Rattle.dmr_compare.specs.declared.list_record.ListKind.{ListKind}
use Rattle.dmr_compare.specs.declared.list_record.ListKind.TheVariants as kind
use Rattle.dmr_compare.specs.declared.list_record.RecordHead.{RecordHead}
use Rattle.dmr_compare.specs.declared.list_record.RecordHead.TheVariants as head
use Rattle.dmr_listing.proofs.OutgoingListings.{outgoing_part}
use Rattle.dmr_listing.proofs.ReceivedListings.{received_part}
use Rattle.dmr_listing.specs.OutgoingListings.{AreSendingsRead}
use Rattle.dmr_listing.specs.ReceivedListings.{AreReceiptsRead}
use Rattle.dmr_record.specs.Head.{record_limit}
use Rattle.dmr_record.specs.Outgoing.{AreInFrameOrder, IsSending, Sending, ShowsOutgoingFault, last_frame, sending_octets}
use Rattle.dmr_record.specs.Outgoing.{whole_sending}
use Rattle.dmr_record.specs.Received.{FollowEachOther, Follows, IsReadable, Receipt, ReceivedFields, ShowsReceivedFault}
use Rattle.dmr_record.specs.Received.{fields_read}
use Rattle.dmr_record.specs.Received.{kind_octet, last_fields, last_read, receipt_octets, receipt_of, received_fields}
use Rattle.dmr_record.specs.Received.{received_limit}
use Rattle.dmr_record.specs.declared.received.Received.{Received}
use Rattle.dmr_recording.specs.Places.{octet_behind}
use Rattle.dmr_recording.specs.declared.fault_line.FaultLine.{FaultLine}

-- 1. Octets, whatever is spelled.

-- the octets of one more stand behind those of the list
pub octets_more : {X : Type 0} (spelling : X → List ℕ) (xs : List X) (x : X)
    → flat_map spelling (xs ++ x ∷ []) ≡ flat_map spelling xs ++ spelling x
octets_more spelling xs x =
    flat_map-append spelling xs (x ∷ []) ∙ ap (λ l. flat_map spelling xs ++ l) (append-nil (spelling x))

-- where the next one begins
pub octet_more : {X : Type 0} (spelling : X → List ℕ) (xs : List X) (x : X) (octet : ℕ) → octet ≡ octet_behind spelling xs
    → octet + length (spelling x) ≡ octet_behind spelling (xs ++ x ∷ [])
octet_more spelling xs x octet e =
    let whole = ap length (octets_more spelling xs x) in
    omega (arith, e, whole, length-append (flat_map spelling xs) (spelling x))

-- where octets were read and then those of one more, those of all were
pub spelled_more : {X : Type 0} (spelling : X → List ℕ) (xs : List X) (x : X) (a b c : Option (List ℕ))
    → Consumes a b (flat_map spelling xs ++ []) → Consumes b c (spelling x) → Consumes a c (flat_map spelling (xs ++ x ∷ []) ++ [])
spelled_more spelling xs x a b c first next =
    subst (Consumes a c) (sym (append-nil (flat_map spelling (xs ++ x ∷ [])) ∙ octets_more spelling xs x))
    (Consumes-trans a b c _ _ (subst (Consumes a b) (append-nil (flat_map spelling xs)) first) next)

-- 2. Outgoing lists.

order_of_sendings : (before : ℕ) (sendings : List Sending) (next : Sending) → AreInFrameOrder before sendings
    → last_frame before sendings ≤ next.frame → AreInFrameOrder before (sendings ++ next ∷ [])
order_of_sendings before [] next order behind = (behind, tt)
order_of_sendings before (s ∷ ss) next (first, rest) behind = (first, order_of_sendings s.frame ss next rest behind)

last_of_sendings : (before : ℕ) (sendings : List Sending) (next : Sending) → last_frame before (sendings ++ next ∷ []) ≡ next.frame
last_of_sendings before [] next = refl
last_of_sendings before (s ∷ ss) next = last_of_sendings s.frame ss next

sendings_more : (sendings : List Sending) (next : Sending) (a b c : Option (List ℕ)) → AreSendingsRead sendings [] a b
    → IsSending next → last_frame 0 sendings ≤ next.frame → Consumes b c (sending_octets next)
    → AreSendingsRead (sendings ++ next ∷ []) [] a c
sendings_more sendings next a b c read is_sending behind took = record {
  each = All-push IsSending sendings next read.each is_sending;
  order = order_of_sendings 0 sendings next read.order behind;
  octets = spelled_more sending_octets sendings next a b c read.octets took;
}

-- 3. Received lists.

order_of_receipts : (before : Option ReceivedFields) (receipts : List Receipt) (next : Receipt) → FollowEachOther before receipts
    → Follows (last_fields before receipts) (received_fields next) → FollowEachOther before (receipts ++ next ∷ [])
order_of_receipts before [] next order follows = (follows, tt)
order_of_receipts before (r ∷ rs) next (first, rest) follows =
    (first, order_of_receipts (Some (received_fields r)) rs next rest follows)

last_of_receipts : (before : Option ReceivedFields) (receipts : List Receipt) (next : Receipt)
    → last_fields before (receipts ++ next ∷ []) ≡ Some (received_fields next)
last_of_receipts before [] next = refl
last_of_receipts before (r ∷ rs) next = last_of_receipts (Some (received_fields r)) rs next

receipts_more : (receipts : List Receipt) (next : Receipt) (a b c : Option (List ℕ)) → AreReceiptsRead receipts [] a b
    → IsReadable next → Follows (last_fields None receipts) (received_fields next) → Consumes b c (receipt_octets next)
    → AreReceiptsRead (receipts ++ next ∷ []) [] a c
receipts_more receipts next a b c read readable follows took = record {
  each = All-push IsReadable receipts next read.each readable;
  order = order_of_receipts None receipts next read.order follows;
  octets = spelled_more receipt_octets receipts next a b c read.octets took;
}

-- the fields of a record that was read, with this count
abbrev fields : Received → ℕ → ReceivedFields
fields r count = record { frame = r.frame; slot = r.slot; kind = kind_octet r.kind; source = r.source; count = count }

-- 4. Records.

-- nothing was read
pub none_read : (list : ListKind) (left : Option (List ℕ)) → AreRecordsReadTo (no_record list) [] left left
none_read kind.Outgoing left = ([], refl, refl, record { each = tt; order = tt; octets = Consumes-nil left })
none_read kind.Received left = ([], refl, refl, record { each = tt; order = tt; octets = Consumes-nil left })

-- no record was read of a list of its kind
pub kind_of_none : (list : ListKind) → kind_behind (no_record list) ≡ list
kind_of_none kind.Outgoing = refl
kind_of_none kind.Received = refl

-- a record more was read
pub records_more : (last : LastRecord) (before : ℕ) (head : RecordHead) (octets : List ℕ) (records : List ListRecord)
    (a b c : Option (List ℕ)) → AreRecordsReadTo last records a b → StandsBehind last before head octets
    → Consumes b c (record_octets (record_with head octets))
    → AreRecordsReadTo (last_of head) (records ++ record_with head octets ∷ []) a c
records_more (last.Outgoing frame) before (head.Outgoing r) octets records a b c (ss, are, framed, read)
    (below, behind, long, is_sending) took =
    let next : Sending = whole_sending r octets in (
      ss ++ next ∷ [],
      ap (λ l. l ++ OfOutgoing next ∷ []) are ∙ sym (map-append OfOutgoing ss (next ∷ [])),
      last_of_sendings 0 ss next,
      sendings_more ss next a b c read is_sending (omega (arith, framed, behind)) took,
    )
records_more (last.Received received) before (head.Received r) octets records a b c (rs, are, lasting, read)
    (below, is_slot, follows, long, is_receipt) took =
    let next : Receipt = receipt_of r octets in
    let same : received_fields next ≡ fields_read r = ap (λ n. fields r n) long in
    let behind : Follows (last_fields None rs) (received_fields next) =
    subst (λ (l : Option ReceivedFields). Follows l (received_fields next)) (sym lasting)
    (subst (λ (f : ReceivedFields). Follows (last_read received) f) (sym same) follows) in (
      rs ++ next ∷ [],
      ap (λ l. l ++ OfReceived next ∷ []) are ∙ sym (map-append OfReceived rs (next ∷ [])),
      last_of_receipts None rs next ∙ ap Some same,
      receipts_more rs next a b c read (is_receipt, is_slot) behind took,
    )
records_more (last.Outgoing frame) before (head.Received r) octets records a b c read behind took = absurd behind
records_more (last.Received received) before (head.Outgoing r) octets records a b c read behind took = absurd behind

-- the list of one more is of the same kind
pub kind_more : (last : LastRecord) (before : ℕ) (head : RecordHead) (octets : List ℕ) → StandsBehind last before head octets
    → kind_behind (last_of head) ≡ kind_behind last
kind_more (last.Outgoing frame) before (head.Outgoing r) octets behind = refl
kind_more (last.Received received) before (head.Received r) octets behind = refl
kind_more (last.Outgoing frame) before (head.Received r) octets behind = absurd behind
kind_more (last.Received received) before (head.Outgoing r) octets behind = absurd behind

-- and had room for it
pub below_limit : (last : LastRecord) (before : ℕ) (head : RecordHead) (octets : List ℕ) → StandsBehind last before head octets
    → before < list_limit (kind_behind last)
below_limit (last.Outgoing frame) before (head.Outgoing r) octets behind = behind.0
below_limit (last.Received received) before (head.Received r) octets behind = behind.0
below_limit (last.Outgoing frame) before (head.Received r) octets behind = absurd behind
below_limit (last.Received received) before (head.Outgoing r) octets behind = absurd behind

-- it carries as many octets as its head says
pub as_long : (last : LastRecord) (before : ℕ) (head : RecordHead) (octets : List ℕ) → StandsBehind last before head octets
    → length octets ≡ length_of head
as_long (last.Outgoing frame) before (head.Outgoing r) octets behind = behind.2
as_long (last.Received received) before (head.Received r) octets behind = behind.3
as_long (last.Outgoing frame) before (head.Received r) octets behind = absurd behind
as_long (last.Received received) before (head.Outgoing r) octets behind = absurd behind

-- what a reader has read up to its last record is what was read of its list
pub read_of : (before : LastRecord) (list : ListKind) (records : List ListRecord) (a b : Option (List ℕ))
    → kind_behind before ≡ list → AreRecordsReadTo before records a b → AreRecordsRead list records a b
read_of before list records a b e read = subst (λ (k : ListKind). AreRecordsRead k records a b) e (by_last before read)
  where
    by_last : (l : LastRecord) → AreRecordsReadTo l records a b → AreRecordsRead (kind_behind l) records a b
    by_last (last.Outgoing frame) (ss, are, framed, read) = (ss, are, read)
    by_last (last.Received received) (rs, are, lasting, read) = (rs, are, read)

-- the record behind them shows a fault
pub fault_behind : (last : LastRecord) (before : ℕ) (fault : FaultLine) (taken : List ℕ) (records : List ListRecord)
    (a b c : Option (List ℕ)) → AreRecordsReadTo last records a b → before ≡ length records → Consumes b c taken
    → ShowsListFault last before fault.fault taken → fault.octet ≡ octet_behind record_octets records → fault.place ≡ None
    → AreRecordsReadUpToFault (kind_behind last) records fault a c
fault_behind (last.Outgoing frame) before fault taken records a b c (ss, are, framed, read) count took shown octet place =
    let many : length records ≡ length ss = ap length are ∙ length-map ss OfOutgoing in (
      ss,
      are,
      record {
        part = taken;
        before = outgoing_part ss taken a b c read took;
        shown = subst (λ n. ShowsOutgoingFault record_limit n (last_frame 0 ss) fault.fault taken) (count ∙ many)
            (subst (λ n. ShowsOutgoingFault record_limit before n fault.fault taken) (sym framed) shown);
        octet = octet ∙ ap (λ l. octet_behind record_octets l) are ∙ ap (λ l. 8 + length l) (octets_of_sendings ss);
        place = place;
      },
    )
fault_behind (last.Received received) before fault taken records a b c (rs, are, lasting, read) count took shown octet place =
    let many : length records ≡ length rs = ap length are ∙ length-map rs OfReceived in (
      rs,
      are,
      record {
        part = taken;
        before = received_part rs taken a b c read took;
        shown = subst (λ n. ShowsReceivedFault received_limit n (last_fields None rs) fault.fault taken) (count ∙ many)
            (subst (λ (l : Option ReceivedFields). ShowsReceivedFault received_limit before l fault.fault taken) (sym lasting)
            shown);
        octet = octet ∙ ap (λ l. octet_behind record_octets l) are ∙ ap (λ l. 8 + length l) (octets_of_receipts rs);
        place = place;
      },
    )

-- 5. A reader.

-- a reader goes on over a record that it read
pub reader_on : (last next : LastRecord) (count octet octet' : ℕ) (is_over : Bool) (head : RecordHead) (octets : List ℕ)
    (records : List ListRecord) (a b c : Option (List ℕ))
    → HasReadRecords (record { last = last; count = count; octet = octet; is_over = is_over }) records a b
    → is_over ≡ false → StandsBehind last count head octets → Consumes b c (record_octets (record_with head octets))
    → next ≡ last_of head → octet' ≡ octet + length (record_octets (record_with head octets)) → octet' ≤ octet + 65547
    → HasReadRecords (record { last = next; count = count + 1; octet = octet'; is_over = is_over })
    (records ++ record_with head octets ∷ []) a c
reader_on last next count octet octet' is_over head octets records a b c h going behind took e long short =
    let more = length_push records (record_with head octets) in
    let below = below_limit last count head octets behind in
    let kinds : list_limit (kind_behind next) ≡ list_limit (kind_behind last) =
    ap (λ (l : LastRecord). list_limit (kind_behind l)) e ∙ ap list_limit (kind_more last count head octets behind) in
    let old_count : count ≡ length records = h.count in
    let old_room : octet ≤ 8 + 65547 * count = h.room in
    record {
      read = subst (λ (l : LastRecord). AreRecordsReadTo l (records ++ record_with head octets ∷ []) a c) (sym e)
          (records_more last count head octets records a b c h.read behind took);
      count = omega (arith, more, old_count);
      few = omega (arith, below, kinds);
      octet = long ∙ octet_more record_octets records (record_with head octets) octet h.octet;
      room = omega (arith, short, old_room);
      over = λ over. absurd (grind (arith, going, over));
    }

-- what a reader of a list found is a step of it
pub step_of : (was_over is_over : Bool) (found : Option RecordHead) (room : List ℕ)
    → IfSome found (λ head. (was_over ≡ false) × (is_over ≡ false)) → IfNone found (is_over ≡ true)
    → IsStep was_over is_over (record_found found room)
step_of was_over is_over None room some none = record { some = tt; none = none }
step_of was_over is_over (Some head) room some none = record { some = some; none = tt }

-- nothing was found where no head was
pub found_of : (found : Option RecordHead) (room : List ℕ) → found ≡ None → record_found found room ≡ None
found_of found room e = ap (λ (f : Option RecordHead). record_found f room) e
