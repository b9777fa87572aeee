-- A line that shows a fault says nothing.
use Rattle.std.proofs.Common.{◌≡◌, ℕ, ◌+◌, ◌*◌, ◌/◌, ◌%◌, ◌<◌, ◌≤◌, ◌==◌, ◌^◌, inl, inr, if◌then◌else◌, zero, suc}
use Rattle.std.proofs.Common.{Bool, true, false, List, [], ◌∷◌, length, Option, Some, None, refl, sym, ap, ◌∙◌, subst, arith}
use Rattle.std.specs.Prelude.{codes, decimal, nat_le}
use Rattle.std.specs.Fmt.{digit_glyph, digits, digits_onto}
use Rattle.std.specs.List.{AllByRecursion}
use Rattle.std.proofs.lemmas.Bool.{leb-true}
use Rattle.std.proofs.lemmas.Fmt.{decimal_injective}
use Rattle.dmr_recording.specs.Places.{place_by_number}
use Rattle.dmr_recording.specs.Recordings.{slot_limit_of}
use Rattle.dmr_recording.specs.declared.recording.RecordedBurst.{RecordedBurst}
use Rattle.dmr_recording.specs.declared.recording.Recording.{Recording}
use Rattle.dmr_recording.specs.declared.recording.Recording.TheVariants.{Uplink, Downlink}
use Rattle.dmr_record.specs.Head.{record_limit}
use Rattle.dmr_record.specs.Outgoing.{IsSending, Sending, last_frame}
use Rattle.dmr_record.specs.Received.{Follows, IsReadable, IsSlot, Receipt, ReceivedFields, kind_octet}
use Rattle.dmr_record.specs.Received.{last_fields, received_fields, received_limit}
use Rattle.dmr_record.specs.declared.received.ReceivedKind.{ReceivedKind}
use Rattle.dmr_text.specs.Files.{File, Receipts, Sendings, Slots}
use Rattle.dmr_text.specs.Following.{SaysLast, SaysNext}
use Rattle.dmr_text.specs.Says.{SaysBurst, SaysEntry, SaysReceipt, SaysSending}
use Rattle.dmr_text.specs.Spelling.{confirmed_word, frames_words, kind_word, rate_word, records_words}
use Rattle.dmr_text.specs.Telling.{ShowsLineFault}
use Rattle.dmr_text.specs.TextFaults.{BeginsWith, HasPlace, HasSource, ShowsReceiptLineFault}
use Rattle.dmr_text.specs.TextFaults.{ShowsSendingLineFault, ShowsSlotLineFault, order_fields, slot_number}
use Rattle.dmr_text.specs.declared.fault.TextFault.{TextFault}
use Rattle.dmr_text.specs.declared.fault.TextFault.TheVariants as fault
use Rattle.dmr_text.proofs.Plain.{below_tested}

-- decimal digits are no letters
abbrev AreDigits : List ℕ → Type 0
AreDigits word = AllByRecursion (λ c. c ≤ 57) word

glyph_small : (d : ℕ) → d < 10 → digit_glyph false d ≤ 57
glyph_small d few = leb-true (digit_glyph false d) 57 (below_tested (λ (k : ℕ). nat_le (digit_glyph false k) 57) 10 d refl few)

one_of : (b : Bool) (xs ys : List ℕ) → AreDigits xs → AreDigits ys → AreDigits (if b then xs else ys)
one_of true xs ys a b = a
one_of false xs ys a b = b

digits_small : (k n : ℕ) (rest : List ℕ) → AreDigits rest → AreDigits (digits_onto k 10 false n rest)
digits_small zero n rest small = small
digits_small (suc k) n rest small =
    let glyph = glyph_small (n % 10) (omega arith) in
    one_of (n / 10 == 0) _ _ (glyph, small) (digits_small k (n / 10) (digit_glyph false (n % 10) ∷ rest) (glyph, small))

decimal_small : (n : ℕ) → AreDigits (decimal n)
unfolding digits
decimal_small n = digits_small 64 n [] tt

-- so no word that begins with a letter is a number
no_number : (c n : ℕ) (word : List ℕ) → 57 < c → c ∷ word ≡ decimal n → ⊥
no_number c n word letter e =
    let small = subst AreDigits (sym e) (decimal_small n) in
    let first = small.0 in
    omega (arith, first, letter)

-- The word for frames is no number.
pub frames_no_number : (n : ℕ) → codes "frames" ≡ decimal n → ⊥
frames_no_number n e = no_number 102 n (codes "rames") (omega arith) e

-- The word for records is no number.
pub records_no_number : (n : ℕ) → codes "records" ≡ decimal n → ⊥
records_no_number n e = no_number 114 n (codes "ecords") (omega arith) e

-- the first letter of the first word
abbrev letter : List (List ℕ) → ℕ
letter ((c ∷ word) ∷ words) = c
letter _ = 0

-- A line begins with one of the two words alone.
pub frames_no_records : (words : List (List ℕ)) → BeginsWith (codes "frames") words → BeginsWith (codes "records") words → ⊥
frames_no_records words (rest, e) (rest', e') = let same : 102 ≡ 114 = ap letter (sym e ∙ e') in omega (arith, same)

-- Numbers with the same digits are the same.
pub one : (m n : ℕ) → m < 2 ^ 32 → n < 2 ^ 32 → decimal m ≡ decimal n → m ≡ n
one m n few few' e = decimal_injective m n (omega arith) (omega arith) e

-- A slot is a number of 32 bits.
pub slot_few : (slot : ℕ) → IsSlot slot → slot < 2 ^ 32
slot_few slot (inl e) = omega (arith, e)
slot_few slot (inr e) = omega (arith, e)

-- a place with others behind it is one
pub record IsSame (frame slot frame' slot' : ℕ) (rest rest' : List (List ℕ)) : Type 0 where
  pub of_frame : frame ≡ frame'
  pub of_slot : slot ≡ slot'
  pub of_rest : rest ≡ rest'

-- A line has one place.
pub places_same : (words rest rest' : List (List ℕ)) (frame slot frame' slot' : ℕ) → HasPlace words frame slot rest
    → words ≡ decimal frame' ∷ decimal slot' ∷ rest' → frame' < 2 ^ 32 → slot' < 2 ^ 32 → IsSame frame slot frame' slot' rest rest'
places_same words rest rest' frame slot frame' slot' has e few few' =
    let line = has.line in
    let frames : decimal frame ≡ decimal frame' = cc (line, e) in
    let slots : decimal slot ≡ decimal slot' = cc (line, e) in
    let behind : rest ≡ rest' = cc (line, e) in
    record {
      of_frame = one frame frame' has.few few frames;
      of_slot = one slot slot' (slot_few slot has.one) few' slots;
      of_rest = behind;
    }

limit_small : (of : Recording) → slot_limit_of of < 2 ^ 31
limit_small Uplink = omega arith
limit_small Downlink = omega arith

number_same : (frame slot number : ℕ) (rest rest' : List (List ℕ)) → IsSlot slot
    → IsSame frame slot (number / 2) (number % 2 + 1) rest rest' → slot_number frame slot ≡ number
number_same frame slot number rest rest' (inl e) same =
    let f = same.of_frame in
    let s = same.of_slot in
    omega (arith, e, f, s)
number_same frame slot number rest rest' (inr e) same =
    let f = same.of_frame in
    let s = same.of_slot in
    omega (arith, e, f, s)

module _ (of : Recording) (count number : ℕ) (burst : RecordedBurst) (words : List (List ℕ)) (behind : count ≤ number)
    (below : number < slot_limit_of of) (entry : SaysEntry of words (place_by_number number, burst)) where
  abbrev rest : List (List ℕ)
  rest = entry.0

  line : words ≡ decimal (number / 2) ∷ decimal (number % 2 + 1) ∷ rest
  line = entry.1

  begins : (word : List ℕ) → BeginsWith word words → word ≡ decimal (number / 2)
  begins word (other, e) = cc (e, line)

  same_place : (frame slot : ℕ) (other : List (List ℕ)) → HasPlace words frame slot other
      → IsSame frame slot (number / 2) (number % 2 + 1) other rest
  same_place frame slot other has =
      let small = limit_small of in
      places_same words other rest frame slot (number / 2) (number % 2 + 1) has line (omega (arith, below, small)) (omega arith)

  same_number : (frame slot : ℕ) (other : List (List ℕ)) → HasPlace words frame slot other → slot_number frame slot ≡ number
  same_number frame slot other has = number_same frame slot number other rest has.one (same_place frame slot other has)

  some_place : (1 ≤ number % 2 + 1) → HasPlace words (number / 2) (number % 2 + 1) rest
  some_place positive =
      let small = limit_small of in
      record {
        line = line;
        few = omega (arith, below, small);
        one = slot_of (number % 2) (omega arith);
      }
    where
      slot_of : (n : ℕ) → n < 2 → IsSlot (n + 1)
      slot_of zero few = inl (omega arith)
      slot_of (suc n) few = inr (omega (arith, few))

  entry_apart : (e : TextFault) → ShowsSlotLineFault of count e words → ⊥
  entry_apart fault.NoLastLine shown = records_no_number (number / 2) (begins (codes "records") shown)
  entry_apart fault.WrongNumber (inl (frames, none)) = frames_no_number (number / 2) (begins (codes "frames") frames)
  entry_apart fault.WrongNumber (inr (inl (frames, fits, e, few))) = frames_no_number (number / 2) (begins (codes "frames") (_, e))
  entry_apart fault.WrongNumber (inr (inr (record_line, none))) =
      none (number / 2) (number % 2 + 1) rest (some_place (omega arith))
  entry_apart fault.TooLong (inl (frames, fits, e, few, many)) = frames_no_number (number / 2) (begins (codes "frames") (_, e))
  entry_apart fault.TooLong (inr (frame, slot, other, has, past)) =
      let same = same_number frame slot other has in
      omega (arith, same, past, below)
  entry_apart fault.PlacesDontGrow (frame, slot, other, has, within, before) =
      let same = same_number frame slot other has in
      omega (arith, same, before, behind)
  entry_apart fault.WrongBurst (frame, slot, other, has, within, later, none) =
      none burst (subst (λ (r : List (List ℕ)). SaysBurst of r burst) (sym (same_place frame slot other has).of_rest) entry.2)
  entry_apart fault.NoFirstLine shown = shown
  entry_apart fault.LineBehindLast shown = shown
  entry_apart fault.WrongMode shown = shown
  entry_apart fault.WrongKind shown = shown
  entry_apart fault.WrongOctets shown = shown
  entry_apart fault.Read shown = shown

-- the last line of a recording
module _ (of : Recording) (count frames : ℕ) (words : List (List ℕ)) (behind : count ≤ 2 * frames)
    (within : 2 * frames ≤ slot_limit_of of) (line : words ≡ frames_words frames) where
  no_place : (frame slot : ℕ) (other : List (List ℕ)) → HasPlace words frame slot other → ⊥
  no_place frame slot other has =
      let e = has.line in
      let same : codes "frames" ≡ decimal frame = cc (e, line) in
      frames_no_number frame same

  same_frames : (n : ℕ) → n < 2 ^ 32 → words ≡ frames_words n → n ≡ frames
  same_frames n few e =
      let small = limit_small of in
      let same : decimal n ≡ decimal frames = cc (e, line) in
      one n frames few (omega (arith, within, small)) same

  frames_apart : (e : TextFault) → ShowsSlotLineFault of count e words → ⊥
  frames_apart fault.NoLastLine shown = frames_no_records words (_, line) shown
  frames_apart fault.WrongNumber (inl (opens, none)) =
      let small = limit_small of in
      none frames (omega (arith, within, small)) line
  frames_apart fault.WrongNumber (inr (inl (n, fits, e, few))) =
      let equal = same_frames n fits e in
      omega (arith, equal, few, behind)
  frames_apart fault.WrongNumber (inr (inr (record_line, none))) = record_line.frames (_, line)
  frames_apart fault.TooLong (inl (n, fits, e, few, many)) =
      let equal = same_frames n fits e in
      omega (arith, equal, many, within)
  frames_apart fault.TooLong (inr (frame, slot, other, has, past)) = no_place frame slot other has
  frames_apart fault.PlacesDontGrow (frame, slot, other, has, below, before) = no_place frame slot other has
  frames_apart fault.WrongBurst (frame, slot, other, has, below, later, none) = no_place frame slot other has
  frames_apart fault.NoFirstLine shown = shown
  frames_apart fault.LineBehindLast shown = shown
  frames_apart fault.WrongMode shown = shown
  frames_apart fault.WrongKind shown = shown
  frames_apart fault.WrongOctets shown = shown
  frames_apart fault.Read shown = shown

-- a line of an outgoing list that says a record
module _ (count last : ℕ) (next : Sending) (words : List (List ℕ)) (below : count < record_limit) (is_sending : IsSending next)
    (later : last ≤ next.frame) (says : SaysSending words next) where
  abbrev said_mode : List (List ℕ)
  said_mode = confirmed_word next.confirmed ∷ rate_word next.full ∷ says.0 ∷ []

  said_line : words ≡ decimal next.frame ∷ decimal next.slot ∷ said_mode
  said_line = says.2

  said_first : (word : List ℕ) → BeginsWith word words → word ≡ decimal next.frame
  said_first word (other, e) = let line = said_line in cc (e, line)

  said_place : (frame slot : ℕ) (other : List (List ℕ)) → HasPlace words frame slot other
      → IsSame frame slot next.frame next.slot other said_mode
  said_place frame slot other has =
      places_same words other said_mode frame slot next.frame next.slot has said_line is_sending.frame
      (slot_few next.slot is_sending.slot)

  sending_apart : (e : TextFault) → ShowsSendingLineFault count last e words → ⊥
  sending_apart fault.NoLastLine shown = frames_no_number next.frame (said_first (codes "frames") shown)
  sending_apart fault.WrongNumber (inl (opens, other)) = records_no_number next.frame (said_first (codes "records") opens)
  sending_apart fault.WrongNumber (inr (record_line, none)) =
      none next.frame next.slot said_mode (record { line = said_line; few = is_sending.frame; one = is_sending.slot })
  sending_apart fault.TooLong (frame, slot, other, has, past) = omega (arith, past, below)
  sending_apart fault.PlacesDontGrow (frame, slot, other, has, within, before) =
      let same = (said_place frame slot other has).of_frame in
      omega (arith, same, before, later)
  sending_apart fault.WrongMode (frame, slot, other, has, within, behind, none) =
      none next.confirmed next.full (says.0 ∷ []) (said_place frame slot other has).of_rest
  sending_apart fault.WrongOctets (frame, slot, confirmed, full, other, has, within, behind, none) =
      let same = (said_place frame slot _ has).of_rest in
      let octets : other ≡ says.0 ∷ [] = cc same in
      none says.0 next.datagram octets is_sending.datagram says.1
  sending_apart fault.NoFirstLine shown = shown
  sending_apart fault.LineBehindLast shown = shown
  sending_apart fault.WrongKind shown = shown
  sending_apart fault.WrongBurst shown = shown
  sending_apart fault.Read shown = shown

-- a last line of a list has no place
last_no_place : (words rest : List (List ℕ)) (count frame slot : ℕ) → words ≡ records_words count
    → HasPlace words frame slot rest → ⊥
last_no_place words rest count frame slot is has =
    let line = has.line in
    let same : codes "records" ≡ decimal frame = cc (line, is) in
    records_no_number frame same

sendings_end_apart : (count last : ℕ) (words : List (List ℕ)) → words ≡ records_words count → (e : TextFault)
    → ShowsSendingLineFault count last e words → ⊥
sendings_end_apart count last words is fault.NoLastLine shown = frames_no_records words shown (_, is)
sendings_end_apart count last words is fault.WrongNumber (inl (opens, other)) = other is
sendings_end_apart count last words is fault.WrongNumber (inr (record_line, none)) = record_line.records (_, is)
sendings_end_apart count last words is fault.TooLong (frame, slot, other, has, past) =
    last_no_place words other count frame slot is has
sendings_end_apart count last words is fault.PlacesDontGrow (frame, slot, other, has, below, before) =
    last_no_place words other count frame slot is has
sendings_end_apart count last words is fault.WrongMode (frame, slot, other, has, below, later, none) =
    last_no_place words other count frame slot is has
sendings_end_apart count last words is fault.WrongOctets (frame, slot, confirmed, full, other, has, below, later, none) =
    last_no_place words _ count frame slot is has
sendings_end_apart count last words is fault.NoFirstLine shown = shown
sendings_end_apart count last words is fault.LineBehindLast shown = shown
sendings_end_apart count last words is fault.WrongKind shown = shown
sendings_end_apart count last words is fault.WrongBurst shown = shown
sendings_end_apart count last words is fault.Read shown = shown

-- a received record with others behind it is one
pub record IsSameSource (frame slot : ℕ) (kind : List ℕ) (frame' slot' : ℕ) (kind' : List ℕ) (rest rest' : List (List ℕ)) : Type 0
  where
    pub of_frame : frame ≡ frame'
    pub of_slot : slot ≡ slot'
    pub of_kind : kind ≡ kind'
    pub of_rest : rest ≡ rest'

-- the order looks at no more than the place and the kind
ordered : (last : Option ReceivedFields) (frame slot : ℕ) (kind : ReceivedKind) (source count : ℕ)
    → Follows last (record { frame = frame; slot = slot; kind = kind_octet kind; source = source; count = count })
    → Follows last (order_fields frame slot kind)
ordered None frame slot kind source count follows = tt
ordered (Some last) frame slot kind source count follows = record {
  frame = follows.frame;
  slot = follows.slot;
  kind = follows.kind;
}

module _ (count : ℕ) (last : Option ReceivedFields) (next : Receipt) (words : List (List ℕ)) (below : count < received_limit)
    (readable : IsReadable next) (follows : Follows last (received_fields next)) (says : SaysReceipt words next) where
  heard_line : words ≡ decimal next.frame ∷ decimal next.slot ∷ kind_word next.kind ∷ decimal next.source ∷ says.0 ∷ []
  heard_line = says.2

  heard_first : (word : List ℕ) → BeginsWith word words → word ≡ decimal next.frame
  heard_first word (other, e) = let line = heard_line in cc (e, line)

  heard_source : (frame slot : ℕ) (kind : List ℕ) (source : ℕ) (other : List (List ℕ))
      → HasSource words frame slot kind source other
      → IsSameSource frame slot kind next.frame next.slot (kind_word next.kind) other (says.0 ∷ [])
  heard_source frame slot kind source other has =
      let line = has.line in
      let line' = heard_line in
      let frames : decimal frame ≡ decimal next.frame = cc (line, line') in
      let slots : decimal slot ≡ decimal next.slot = cc (line, line') in
      let kinds : kind ≡ kind_word next.kind = cc (line, line') in
      let behind : other ≡ says.0 ∷ [] = cc (line, line') in
      record {
        of_frame = one frame next.frame has.few readable.0.frame frames;
        of_slot = one slot next.slot (slot_few slot has.one) (slot_few next.slot readable.1) slots;
        of_kind = kinds;
        of_rest = behind;
      }

  heard_order : (frame slot : ℕ) → frame ≡ next.frame → slot ≡ next.slot → Follows last (order_fields frame slot next.kind)
  heard_order frame slot f s =
      subst (λ (n : ℕ). Follows last (order_fields n slot next.kind)) (sym f)
      (subst (λ (n : ℕ). Follows last (order_fields next.frame n next.kind)) (sym s)
      (ordered last next.frame next.slot next.kind next.source (length next.octets) follows))

  receipt_apart : (e : TextFault) → ShowsReceiptLineFault count last e words → ⊥
  receipt_apart fault.NoLastLine shown = frames_no_number next.frame (heard_first (codes "frames") shown)
  receipt_apart fault.WrongNumber (inl (opens, other)) = records_no_number next.frame (heard_first (codes "records") opens)
  receipt_apart fault.WrongNumber (inr (record_line, none)) =
      none next.frame next.slot (kind_word next.kind) next.source (says.0 ∷ [])
      (record { line = heard_line; few = readable.0.frame; one = readable.1; fits = readable.0.source })
  receipt_apart fault.TooLong (frame, slot, kind, source, other, has, past) = omega (arith, past, below)
  receipt_apart fault.PlacesDontGrow (frame, slot, kind, source, other, has, within, none) =
      let same = heard_source frame slot kind source other has in
      none next.kind (inl same.of_kind) (heard_order frame slot same.of_frame same.of_slot)
  receipt_apart fault.WrongKind (frame, slot, kind, source, other, has, within, some, none) =
      none next.kind (heard_source frame slot kind source other has).of_kind
  receipt_apart fault.WrongOctets (frame, slot, kind, source, other, has, within, order, none) =
      none says.0 next.octets (heard_source frame slot (kind_word kind) source other has).of_rest readable.0.octets says.1
  receipt_apart fault.NoFirstLine shown = shown
  receipt_apart fault.LineBehindLast shown = shown
  receipt_apart fault.WrongMode shown = shown
  receipt_apart fault.WrongBurst shown = shown
  receipt_apart fault.Read shown = shown

last_no_source : (words rest : List (List ℕ)) (count frame slot : ℕ) (kind : List ℕ) (source : ℕ) → words ≡ records_words count
    → HasSource words frame slot kind source rest → ⊥
last_no_source words rest count frame slot kind source is has =
    let line = has.line in
    let same : codes "records" ≡ decimal frame = cc (line, is) in
    records_no_number frame same

receipts_end_apart : (count : ℕ) (last : Option ReceivedFields) (words : List (List ℕ)) → words ≡ records_words count
    → (e : TextFault)
    → ShowsReceiptLineFault count last e words → ⊥
receipts_end_apart count last words is fault.NoLastLine shown = frames_no_records words shown (_, is)
receipts_end_apart count last words is fault.WrongNumber (inl (opens, other)) = other is
receipts_end_apart count last words is fault.WrongNumber (inr (record_line, none)) = record_line.records (_, is)
receipts_end_apart count last words is fault.TooLong (frame, slot, kind, source, other, has, past) =
    last_no_source words other count frame slot kind source is has
receipts_end_apart count last words is fault.PlacesDontGrow (frame, slot, kind, source, other, has, below, none) =
    last_no_source words other count frame slot kind source is has
receipts_end_apart count last words is fault.WrongKind (frame, slot, kind, source, other, has, below, some, none) =
    last_no_source words other count frame slot kind source is has
receipts_end_apart count last words is fault.WrongOctets (frame, slot, kind, source, other, has, below, order, none) =
    last_no_source words other count frame slot (kind_word kind) source is has
receipts_end_apart count last words is fault.NoFirstLine shown = shown
receipts_end_apart count last words is fault.LineBehindLast shown = shown
receipts_end_apart count last words is fault.WrongMode shown = shown
receipts_end_apart count last words is fault.WrongBurst shown = shown
receipts_end_apart count last words is fault.Read shown = shown

-- words that show a fault say no record that may stand next
pub says_no_record : (file : File) (e : TextFault) (words : List (List ℕ)) → ShowsLineFault file e words → SaysNext file words → ⊥
says_no_record (Slots of slots) e words shown (number, burst, behind, below, entry) =
    entry_apart of (length slots) number burst words behind below entry e shown
says_no_record (Sendings sendings) e words shown (next, below, is_sending, later, says) =
    sending_apart (length sendings) (last_frame 0 sendings) next words below is_sending later says e shown
says_no_record (Receipts receipts) e words shown (next, below, readable, follows, says) =
    receipt_apart (length receipts) (last_fields None receipts) next words below readable follows says e shown

-- nor may they end the text of the file
pub is_no_last : (file : File) (e : TextFault) (words : List (List ℕ)) → ShowsLineFault file e words → SaysLast file words → ⊥
is_no_last (Slots of slots) e words shown (frames, behind, within, line) =
    frames_apart of (length slots) frames words behind within line e shown
is_no_last (Sendings sendings) e words shown is = sendings_end_apart (length sendings) (last_frame 0 sendings) words is e shown
is_no_last (Receipts receipts) e words shown is = receipts_end_apart (length receipts) (last_fields None receipts) words is e shown
