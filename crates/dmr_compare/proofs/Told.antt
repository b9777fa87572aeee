-- The status tells two files apart.
use Rattle.std.proofs.Common.{◌≡◌, ◌↔◌, ℕ, ◌-◌, ◌==◌, ◌&&◌, Bool, true, false, List, [], ◌∷◌, ◌++◌, Option, length, drop, map}
use Rattle.std.proofs.Common.{if◌then◌else◌}
use Rattle.std.proofs.Common.{refl, sym, ap, ◌∙◌, subst, arith, append-nil}
use Rattle.std.proofs.KnownBytes.{Consumes-trans}
use Rattle.std.proofs.lemmas.Bool.{eqb-true}
use Rattle.std.specs.Io.KnownBytes.{Consumes}
use Rattle.std.specs.List.{AllByRecursion}
use Rattle.dmr_compare.proofs.Equal.{lists_equal, none_different}
use Rattle.dmr_compare.proofs.ListRecords.{one_of_receipts, one_of_sendings, records_equal, same_as_itself}
use Rattle.dmr_compare.proofs.Same.{IsSeen, all_seen, lists_back, lists_same, seen_behind}
use Rattle.dmr_compare.specs.Comparing.{AreRestsCompared}
use Rattle.dmr_compare.specs.Counting.{AreCountsOf, different_places}
use Rattle.dmr_compare.specs.Files.{AreComparedWhole, AreOctetsToldApart, AreSame, AreToldApart, BothContents, Records, Slots}
use Rattle.dmr_compare.specs.Kept.{is_same}
use Rattle.dmr_compare.specs.ListReading.{AreRecordsRead}
use Rattle.dmr_compare.specs.ListRecords.{ListRecord, OfOutgoing, OfReceived, is_same_record}
use Rattle.dmr_compare.specs.Shifts.{slots_in_front_of_first, slots_in_front_of_second}
use Rattle.dmr_compare.specs.Slots.{ListedSlot}
use Rattle.dmr_compare.specs.Status.{different, same, counted_status}
use Rattle.dmr_compare.specs.declared.counts.PlaceCounts.{PlaceCounts}
use Rattle.dmr_compare.specs.declared.list_record.ListKind.TheVariants as list
use Rattle.dmr_compare.specs.declared.settings.CompareSettings.{CompareSettings}
use Rattle.dmr_listing.specs.ListingRules.{begun}
use Rattle.dmr_record.proofs.OutgoingReading.{sending_code}
use Rattle.dmr_record.proofs.Spellings.{one_file}
use Rattle.dmr_record.proofs.WrittenReading.{receipt_code}
use Rattle.dmr_record.specs.Head.{head_octets, outgoing_magic, received_magic}
use Rattle.dmr_record.specs.Outgoing.{IsSending, Sending, outgoing_file, sending_octets, sendings_octets}
use Rattle.dmr_record.specs.Received.{IsReadable, IsReceipt, Receipt, receipt_octets, received_file, receipts_octets}
use Rattle.dmr_record.specs.declared.head.FileFormat.{FileFormat}
use Rattle.dmr_record.specs.declared.head.FileFormat.TheVariants.{Uplink, Downlink, Outgoing, Received}
use Rattle.dmr_recording.specs.declared.recording.Recording.{Recording}

-- 1. Statuses.

-- the status, by whether the two are the same
abbrev pub status_by : Bool → ℕ
status_by b = if b then same else different

-- where the status is 0, each of the three is none
all_true : (a b c : Bool) → status_by (a && b && c) ≡ 0 → (a ≡ true) × (b ≡ true) × (c ≡ true)
all_true true true true e = (refl, refl, refl)
all_true true true false e = absurd (omega arith)
all_true true false c e = absurd (omega arith)
all_true false b c e = absurd (omega arith)

-- and where they are, it is 0
all_none : (d f s : ℕ) → d ≡ 0 → f ≡ 0 → s ≡ 0 → status_by ((d == 0) && (f == 0) && (s == 0)) ≡ 0
all_none d f s e e' e'' =
    ap (λ n. status_by ((n == 0) && (f == 0) && (s == 0))) e ∙ ap (λ n. status_by ((0 == 0) && (n == 0) && (s == 0))) e'
    ∙ ap (λ n. status_by ((0 == 0) && (0 == 0) && (n == 0))) e''

-- the status is 0 exactly where two lists have one length and no difference
status_none : {X : Type 0} (is_same : X → X → Bool) (xs ys : List X) (counts : PlaceCounts) → AreCountsOf is_same xs ys counts
    → (counted_status counts ≡ 0) ↔ ((length xs ≡ length ys) × (different_places is_same xs ys ≡ 0))
status_none is_same xs ys counts h = (forth, back)
  where
    differing : counts.different ≡ different_places is_same xs ys
    differing = h.different

    first : counts.only_in_first ≡ length xs - length ys
    first = h.only_in_first

    second : counts.only_in_second ≡ length ys - length xs
    second = h.only_in_second

    forth : counted_status counts ≡ 0 → (length xs ≡ length ys) × (different_places is_same xs ys ≡ 0)
    forth e =
        let (none, none_first, none_second) =
        all_true (counts.different == 0) (counts.only_in_first == 0) (counts.only_in_second == 0) e in
        (omega (arith, first, second, eqb-true _ _ none_first, eqb-true _ _ none_second), sym differing ∙ eqb-true _ _ none)

    back : (length xs ≡ length ys) × (different_places is_same xs ys ≡ 0) → counted_status counts ≡ 0
    back (long, none) =
        all_none counts.different counts.only_in_first counts.only_in_second (differing ∙ none) (omega (arith, first, long))
        (omega (arith, second, long))

-- 2. Recordings.

-- the status is 0 exactly where two recordings keep the same
status_of_slots : (settings : CompareSettings) (recording : Recording) (firsts seconds : List ListedSlot) (counts : PlaceCounts)
    (a b c d h i : Option (List ℕ)) → AreRestsCompared settings recording firsts seconds counts a b c d h i
    → (counted_status counts ≡ 0) ↔ AreSame settings (Slots firsts seconds)
status_of_slots settings recording firsts seconds counts a b c d h i rests = (forth, back)
  where
    xs : List ListedSlot
    xs = drop (slots_in_front_of_first settings.shift) firsts

    ys : List ListedSlot
    ys = drop (slots_in_front_of_second settings.shift) seconds

    of_xs : AllByRecursion (IsSeen recording) xs
    of_xs =
        seen_behind recording (slots_in_front_of_first settings.shift) firsts
        (all_seen recording begun rests.first_turn firsts rests.first_read.each rests.first_read.listed)

    of_ys : AllByRecursion (IsSeen recording) ys
    of_ys =
        seen_behind recording (slots_in_front_of_second settings.shift) seconds
        (all_seen recording begun rests.second_turn seconds rests.second_read.each rests.second_read.listed)

    forth : counted_status counts ≡ 0 → AreSame settings (Slots firsts seconds)
    forth e =
        let (long, none) = (status_none (is_same settings.ignored) xs ys counts rests.compared.counted).0 e in
        lists_same recording settings.ignored xs ys of_xs of_ys long none

    back : AreSame settings (Slots firsts seconds) → counted_status counts ≡ 0
    back e =
        (status_none (is_same settings.ignored) xs ys counts rests.compared.counted).1
        (lists_back recording settings.ignored xs ys of_xs of_ys e)

-- 3. Lists.

-- the status is 0 exactly where the records of two lists are one list
status_of_records : (firsts seconds : List ListRecord) (counts : PlaceCounts) → AreCountsOf is_same_record firsts seconds counts
    → (counted_status counts ≡ 0) ↔ (firsts ≡ seconds)
status_of_records firsts seconds counts counted = (forth, back)
  where
    forth : counted_status counts ≡ 0 → firsts ≡ seconds
    forth e =
        let (long, none) = (status_none is_same_record firsts seconds counts counted).0 e in
        lists_equal is_same_record records_equal firsts seconds none long

    back : firsts ≡ seconds → counted_status counts ≡ 0
    back e =
        (status_none is_same_record firsts seconds counts counted).1 (
          ap length e,
          ap (λ (l : List ListRecord). different_places is_same_record firsts l) (sym e)
              ∙ none_different is_same_record same_as_itself firsts,
        )

-- a file was taken, head and records
whole_taken : (head octets : List ℕ) (a b c : Option (List ℕ)) → Consumes a b head → Consumes b c (octets ++ [])
    → Consumes a c (head ++ octets)
whole_taken head octets a b c front rest =
    Consumes-trans a b c head octets front (subst (Consumes b c) (append-nil octets) rest)

-- received records that can be read fit their fields
fit_fields : (receipts : List Receipt) → AllByRecursion IsReadable receipts → AllByRecursion IsReceipt receipts
fit_fields [] each = tt
fit_fields (r ∷ rs) ((fits, is_slot), rest) = (fits, fit_fields rs rest)

-- of two outgoing lists the status says whether their octets are the same
sendings_told : (firsts seconds : List ListRecord) (status : ℕ) (a b b' c d d' : Option (List ℕ))
    → Consumes a b (head_octets outgoing_magic) → Consumes c d (head_octets outgoing_magic)
    → AreRecordsRead list.Outgoing firsts b b' → AreRecordsRead list.Outgoing seconds d d'
    → ((status ≡ same) ↔ (firsts ≡ seconds)) → AreOctetsToldApart (Records firsts seconds) status a b' c d'
sendings_told firsts seconds status a b b' c d d' head head' (ss, are, read) (ts, are', read') exact = (
  outgoing_file ss,
  outgoing_file ts,
  whole_taken (head_octets outgoing_magic) (sendings_octets ss) a b b' head read.octets,
  whole_taken (head_octets outgoing_magic) (sendings_octets ts) c d d' head' read'.octets,
  (
    λ zero. ap outgoing_file (one_of_sendings ss ts (sym are ∙ exact.0 zero ∙ are')),
    λ alike. exact.1 (are ∙ ap (λ (l : List Sending). map OfOutgoing l)
        (one_file IsSending sending_octets sending_code (head_octets outgoing_magic) ss ts read.each read'.each alike) ∙ sym are'),
  ),
)

-- and so it does of two received lists
receipts_told : (firsts seconds : List ListRecord) (status : ℕ) (a b b' c d d' : Option (List ℕ))
    → Consumes a b (head_octets received_magic) → Consumes c d (head_octets received_magic)
    → AreRecordsRead list.Received firsts b b' → AreRecordsRead list.Received seconds d d'
    → ((status ≡ same) ↔ (firsts ≡ seconds)) → AreOctetsToldApart (Records firsts seconds) status a b' c d'
receipts_told firsts seconds status a b b' c d d' head head' (rs, are, read) (ts, are', read') exact = (
  received_file rs,
  received_file ts,
  whole_taken (head_octets received_magic) (receipts_octets rs) a b b' head read.octets,
  whole_taken (head_octets received_magic) (receipts_octets ts) c d d' head' read'.octets,
  (
    λ zero. ap received_file (one_of_receipts rs ts (sym are ∙ exact.0 zero ∙ are')),
    λ alike. exact.1 (are ∙ ap (λ (l : List Receipt). map OfReceived l)
        (one_file IsReceipt receipt_octets receipt_code (head_octets received_magic) rs ts (fit_fields rs read.each)
        (fit_fields ts read'.each) alike) ∙ sym are'),
  ),
)

-- 4. Files.

-- what holds of the counts' status holds of a status that is theirs
of_counts : {P : Type 0} (counts : PlaceCounts) (status : ℕ) → status ≡ counted_status counts → (counted_status counts ≡ 0) ↔ P
    → (status ≡ same) ↔ P
of_counts counts status e exact = (λ zero. exact.0 (sym e ∙ zero), λ p. e ∙ exact.1 p)

-- so two files that were compared whole are told apart
pub told_apart : (settings : CompareSettings) (format : FileFormat) (contents : BothContents) (counts : PlaceCounts) (status : ℕ)
    (a b c d h i : Option (List ℕ)) → AreComparedWhole settings format contents counts a b c d h i
    → status ≡ counted_status counts → AreToldApart settings status a b c d h i
told_apart settings Uplink (Slots firsts seconds) counts status a b c d h i whole e = record {
  format = Uplink;
  contents = Slots firsts seconds;
  counts = counts;
  whole = whole;
  status_same = of_counts counts status e (status_of_slots settings _ firsts seconds counts _ _ _ _ _ _ whole.rests);
  octets = tt;
}
told_apart settings Downlink (Slots firsts seconds) counts status a b c d h i whole e = record {
  format = Downlink;
  contents = Slots firsts seconds;
  counts = counts;
  whole = whole;
  status_same = of_counts counts status e (status_of_slots settings _ firsts seconds counts _ _ _ _ _ _ whole.rests);
  octets = tt;
}
told_apart settings Outgoing (Records firsts seconds) counts status a b c d h i whole e =
    let (unshifted, compared) = whole.rests in
    let exact = of_counts counts status e (status_of_records firsts seconds counts compared.counted) in
    record {
      format = Outgoing;
      contents = Records firsts seconds;
      counts = counts;
      whole = whole;
      status_same = exact;
      octets = sendings_told firsts seconds status a whole.first_left b c whole.second_left d whole.first_head whole.second_head
          compared.first_read compared.second_read exact;
    }
told_apart settings Received (Records firsts seconds) counts status a b c d h i whole e =
    let (unshifted, compared) = whole.rests in
    let exact = of_counts counts status e (status_of_records firsts seconds counts compared.counted) in
    record {
      format = Received;
      contents = Records firsts seconds;
      counts = counts;
      whole = whole;
      status_same = exact;
      octets = receipts_told firsts seconds status a whole.first_left b c whole.second_left d whole.first_head whole.second_head
          compared.first_read compared.second_read exact;
    }
told_apart settings Uplink (Records firsts seconds) counts status a b c d h i whole e = absurd whole.rests
told_apart settings Downlink (Records firsts seconds) counts status a b c d h i whole e = absurd whole.rests
told_apart settings Outgoing (Slots firsts seconds) counts status a b c d h i whole e = absurd whole.rests
told_apart settings Received (Slots firsts seconds) counts status a b c d h i whole e = absurd whole.rests
