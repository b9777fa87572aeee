-- What is written has one reading: a slot of an uplink or a downlink file, and a record of a received file.
use Rattle.std.proofs.Common.{◌≡◌, ℕ, List, [], ◌++◌, length, get_or, drop, Option, Some, None, refl, sym, ap, ◌∙◌, append_assoc}
use Rattle.byteorder.specs.Endian.{big_number}
use Rattle.byteorder.specs.Numbers.{big_number-reads_back}
use Rattle.dmr_record.specs.declared.received.ReceivedKind.{ReceivedKind}
use Rattle.dmr_record.specs.declared.received.ReceivedKind.TheVariants.{Datagram, ShortData, Status}
use Rattle.dmr_record.specs.Downlink.{IsSent, sent_octets}
use Rattle.dmr_record.specs.Received.{Receipt, IsReceipt, kind_octet, receipt_octets}
use Rattle.dmr_record.specs.Spelling.{IsPrefixCode}
use Rattle.dmr_record.specs.Uplink.{IsSilenceOrBurst, slot_octets}
use Rattle.dmr_record.proofs.Spellings.{same_fronts}

-- two fronts of two pieces each
same_pieces : (xs xs' ys ys' a b : List ℕ) → length xs ≡ length ys → length xs' ≡ length ys' → (xs ++ xs') ++ a ≡ (ys ++ ys') ++ b
    → (xs ≡ ys) × (xs' ≡ ys') × (a ≡ b)
same_pieces xs xs' ys ys' a b l l' e =
    let (first, behind) = same_fronts xs ys (xs' ++ a) (ys' ++ b) l (sym (append_assoc xs xs' a) ∙ e ∙ append_assoc ys ys' b) in
    let (second, rest) = same_fronts xs' ys' a b l' behind in
    (first, second, rest)

one_slot : (x y : Option (List ℕ)) (a b : List ℕ) → IsSilenceOrBurst x → IsSilenceOrBurst y
    → slot_octets x ++ a ≡ slot_octets y ++ b → (x ≡ y) × (a ≡ b)
one_slot None None a b p q e = (refl, (cc))
one_slot None (Some y) a b p q e = absurd (cc)
one_slot (Some x) None a b p q e = absurd (cc)
one_slot (Some x) (Some y) a b p q e =
    let (burst, rest) = same_fronts x y a b (p ∙ sym q) (ap (drop 1) e) in (ap (λ (u : List ℕ). Some u) burst, rest)

-- each slot of an uplink file has octets, which aren't the front of any other's
pub slot_code : IsPrefixCode IsSilenceOrBurst slot_octets
slot_code = record {
  begins = λ x rest p e. (cc);
  one = one_slot;
}

one_sent : (x y : Option (List ℕ × List ℕ)) (a b : List ℕ) → IsSent x → IsSent y → sent_octets x ++ a ≡ sent_octets y ++ b → (x ≡
    y) × (a ≡ b)
one_sent None None a b p q e = (refl, (cc))
one_sent None (Some y) a b p q e = absurd (cc)
one_sent (Some x) None a b p q e = absurd (cc)
one_sent (Some x) (Some y) a b p q e =
    let (cach, burst, rest) = same_pieces x.0 x.1 y.0 y.1 a b (p.0 ∙ sym q.0) (p.1 ∙ sym q.1) (ap (drop 1) e) in
    (ap (λ (c : List ℕ). Some (c, x.1)) cach ∙ ap (λ (u : List ℕ). Some (y.0, u)) burst, rest)

-- the same of a slot of a downlink file
pub sent_code : IsPrefixCode IsSent sent_octets
sent_code = record {
  begins = sent_begins;
  one = one_sent;
}
  where
    sent_begins : (x : Option (List ℕ × List ℕ)) (rest : List ℕ) → IsSent x → sent_octets x ++ rest ≡ [] → ⊥
    sent_begins None rest p e = cc
    sent_begins (Some x) rest p e = cc

one_kind : (x y : ReceivedKind) → kind_octet x ≡ kind_octet y → x ≡ y
one_kind Datagram Datagram e = refl
one_kind ShortData ShortData e = refl
one_kind Status Status e = refl
one_kind x y e = absurd (cc)

abbrev receipt : ℕ → ℕ → ReceivedKind → ℕ → List ℕ → Receipt
receipt frame slot kind source octets = record { frame = frame; slot = slot; kind = kind; source = source; octets = octets }

-- what stands in a record is read from its octets
frame_in : (x : Receipt) (rest : List ℕ) → IsReceipt x → big_number 4 (drop 1 (receipt_octets x ++ rest)) ≡ x.frame
frame_in x rest is = big_number-reads_back 4 x.frame (drop 5 (receipt_octets x ++ rest)) is.frame

source_in : (x : Receipt) (rest : List ℕ) → IsReceipt x → big_number 3 (drop 7 (receipt_octets x ++ rest)) ≡ x.source
source_in x rest is = big_number-reads_back 3 x.source (drop 10 (receipt_octets x ++ rest)) is.source

count_in : (x : Receipt) (rest : List ℕ) → IsReceipt x → big_number 2 (drop 10 (receipt_octets x ++ rest)) ≡ length x.octets
count_in x rest is = big_number-reads_back 2 (length x.octets) (x.octets ++ rest) is.octets

one_receipt : (x y : Receipt) (a b : List ℕ) → IsReceipt x → IsReceipt y → receipt_octets x ++ a ≡ receipt_octets y ++ b → (x ≡ y)
    × (a ≡ b)
one_receipt x y a b p q e =
    let frame = sym (frame_in x a p) ∙ ap (λ l. big_number 4 (drop 1 l)) e ∙ frame_in y b q in
    let slot : x.slot ≡ y.slot = ap (λ l. get_or l 5 0) e in
    let kind = one_kind x.kind y.kind (ap (λ l. get_or l 6 0) e) in
    let source = sym (source_in x a p) ∙ ap (λ l. big_number 3 (drop 7 l)) e ∙ source_in y b q in
    let count = sym (count_in x a p) ∙ ap (λ l. big_number 2 (drop 10 l)) e ∙ count_in y b q in
    let octets = same_fronts x.octets y.octets a b count (ap (drop 12) e) in (
      ap (λ n. receipt n x.slot x.kind x.source x.octets) frame ∙ ap (λ n. receipt y.frame n x.kind x.source x.octets) slot
          ∙ ap (λ k. receipt y.frame y.slot k x.source x.octets) kind ∙ ap (λ n. receipt y.frame y.slot y.kind n x.octets) source
          ∙ ap (λ l. receipt y.frame y.slot y.kind y.source l) octets.0,
      octets.1,
    )

-- the same of a record of a received file
pub receipt_code : IsPrefixCode IsReceipt receipt_octets
receipt_code = record {
  begins = λ x rest p e. (cc);
  one = one_receipt;
}
