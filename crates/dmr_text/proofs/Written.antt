-- The written text of a file says that file.
use Rattle.std.proofs.Common.{◌≡◌, ◌≢◌, ℕ, ◌+◌, ◌/◌, ◌%◌, ◌<◌, ◌≤◌, ◌==◌, ◌^◌, inl, inr, if◌then◌else◌, Bool, true, false}
use Rattle.std.proofs.Common.{List, [], ◌∷◌, ◌++◌, length, map, Option, Some, None, Ok, Err, refl, sym, ap, ◌∙◌, subst, arith}
use Rattle.std.proofs.Common.{append_assoc, append-nil}
use Rattle.std.specs.Prelude.{codes, decimal, unwrap_or}
use Rattle.std.specs.List.{AllByRecursion, AllZip, flat_map, join_with_byte}
use Rattle.std.proofs.lemmas.Bool.{eq-eqb}
use Rattle.std.proofs.lemmas.Fmt.{length-decimal-le}
use Rattle.std.proofs.lemmas.List.{length-append}
use Rattle.hex.specs.Hex.{IsBytes, decode_pairs, decode_sized, encode_upper}
use Rattle.hex.specs.declared.error.FromHexError.TheVariants.{InvalidStringLength, OddLength}
use Rattle.hex.proofs.HexLemmas.{decode_of-encode_upper}
use Rattle.dmr_words.specs.Lines.{Line, has_short_lines, numbered_line, worded_behind}
use Rattle.dmr_record.specs.Outgoing.{IsSending, Sending}
use Rattle.dmr_record.specs.Received.{IsReadable, IsSlot, Receipt}
use Rattle.dmr_record.specs.declared.head.FileFormat.{FileFormat}
use Rattle.dmr_record.specs.declared.head.FileFormat.TheVariants as format
use Rattle.dmr_record.specs.declared.received.ReceivedKind.{ReceivedKind}
use Rattle.dmr_record.specs.declared.received.ReceivedKind.TheVariants.{Datagram, ShortData, Status}
use Rattle.dmr_recording.specs.Places.{entries}
use Rattle.dmr_recording.specs.Recordings.{IsBurstOf, IsSlotOf, RecordedSlot, slot_limit_of}
use Rattle.dmr_recording.specs.declared.place.Place.{Place}
use Rattle.dmr_recording.specs.declared.recording.RecordedBurst.{RecordedBurst}
use Rattle.dmr_recording.specs.declared.recording.Recording.{Recording}
use Rattle.dmr_recording.specs.declared.recording.Recording.TheVariants.{Uplink, Downlink}
use Rattle.dmr_text.specs.Files.{AreRecords, File, HasWholeFrames, Receipts, Sendings, Slots, carried_of, file_format, file_text}
use Rattle.dmr_text.specs.Files.{last_line, records_lines}
use Rattle.dmr_text.specs.Imports.{IsImported, SaysFile}
use Rattle.dmr_text.specs.Octets.{HasOctets, HasSlotOctets}
use Rattle.dmr_text.specs.Says.{IsWithinLimit, SaysBurst, SaysEntry, SaysOctets, SaysReceipt, SaysRecords, SaysSending, last_words}
use Rattle.dmr_text.specs.Spelling.{burst_words, cach_words, confirmed_word, format_word, kind_word, line_of, octets_word}
use Rattle.dmr_text.specs.Spelling.{rate_word, receipt_words, sending_words, title_words}
use Rattle.dmr_text.proofs.Digits.{digits_length, word_length}
use Rattle.dmr_text.specs.declared.carried.Carried.{Carried}
use Rattle.dmr_text.proofs.OneFile.{file_one}
use Rattle.dmr_text.proofs.Plain.{IsPlain, IsWritten, decimal_plain, line_short, line_told, lines_short, lines_told}
use Rattle.dmr_text.proofs.Plain.{octets_plain, plain_tested, words_joined}

all_map : {X Y : Type 0} (P : X → Type 0) (Q : Y → Type 0) (f : X → Y) → ((x : X) → P x → Q (f x)) → (xs : List X)
    → AllByRecursion P xs → AllByRecursion Q (map f xs)
all_map P Q f each [] all = tt
all_map P Q f each (x ∷ xs) (first, all) = (each x first, all_map P Q f each xs all)

zip_map : {X Y : Type 0} (P : X → Type 0) (R : Y → X → Type 0) (f : X → Y) → ((x : X) → P x → R (f x) x) → (xs : List X)
    → AllByRecursion P xs → AllZip R (map f xs) xs
zip_map P R f each [] all = tt
zip_map P R f each (x ∷ xs) (first, all) = (each x first, zip_map P R f each xs all)

both : {X : Type 0} (P Q : X → Type 0) (xs : List X) → AllByRecursion P xs → AllByRecursion Q xs
    → AllByRecursion (λ x. P x × Q x) xs
both P Q [] p q = tt
both P Q (x ∷ xs) (p, ps) (q, qs) = ((p, q), both P Q xs ps qs)

lines_mapped : {X : Type 0} (f : X → List (List ℕ)) (xs : List X)
    → flat_map (λ (x : X). line_of (f x)) xs ≡ flat_map line_of (map f xs)
lines_mapped f [] = refl
lines_mapped f (x ∷ xs) = ap (λ (l : List ℕ). line_of (f x) ++ l) (lines_mapped f xs)

-- how many octets words have, with one behind each
abbrev total : List (List ℕ) → ℕ
total [] = 0
total (w ∷ words) = 1 + length w + total words

joined_length : (words : List (List ℕ)) → length (join_with_byte 32 words) ≤ total words
joined_length [] = omega arith
joined_length (w ∷ []) = omega arith
joined_length (w ∷ v ∷ words) =
    let rest = joined_length (v ∷ words) in
    let e = length-append w (32 ∷ join_with_byte 32 (v ∷ words)) in
    omega (arith, rest, e)

number_length : (n : ℕ) → n < 2 ^ 32 → length (decimal n) ≤ 10
number_length n few = length-decimal-le 10 n (omega arith) (omega arith) (omega arith)

-- octets that were spelled are read
sized_by : (odd same : Bool) (text : List ℕ) → same ≡ true → {octets : List ℕ}
    → (if odd then Err OddLength else decode_pairs 0 text) ≡ Ok octets
    → (if odd then Err OddLength else if same then decode_pairs 0 text else Err InvalidStringLength) ≡ Ok octets
sized_by true same text e d = cc d
sized_by false same text e d = rw e d

sized : (octets : List ℕ) (n : ℕ) → length octets ≡ n → 0 < n → IsBytes octets → decode_sized (octets_word octets) n ≡ Ok octets
sized [] n long some bytes = absurd (omega (arith, long, some))
sized (o ∷ octets) n long some bytes =
    let twice = digits_length (o ∷ octets) in
    let text = encode_upper (o ∷ octets) in
    sized_by (length text % 2 == 1) (length text / 2 == n) text
    (eq-eqb (length text / 2) n (omega (arith, twice, long))) (decode_of-encode_upper (o ∷ octets) bytes)

some_word : (o : ℕ) (octets : List ℕ) → encode_upper (o ∷ octets) ≢ []
some_word o octets e =
    let none = ap length e in
    let twice = digits_length (o ∷ octets) in
    absurd (omega (arith, none, twice))

says_octets : (octets : List ℕ) → IsBytes octets → SaysOctets (octets_word octets) octets
says_octets [] bytes = inl (refl, refl)
says_octets (o ∷ octets) bytes = inr (some_word o octets, decode_of-encode_upper (o ∷ octets) bytes)

-- a burst in its place
abbrev IsEntry : Recording → Place × RecordedBurst → Type 0
IsEntry of e = (e.0.frame < 2 ^ 32) × (e.0.slot < 2 ^ 32) × IsBurstOf of e.1 × HasSlotOctets (Some e.1)

entries_are : (of : Recording) (number : ℕ) (slots : List RecordedSlot) → number + length slots < 2 ^ 32
    → AllByRecursion (IsSlotOf of) slots → AllByRecursion HasSlotOctets slots → AllByRecursion (IsEntry of) (entries number slots)
entries_are of number [] few all octets = tt
entries_are of number (None ∷ slots) few (first, all) (o, octets) =
    entries_are of (number + 1) slots (omega (arith, few)) all octets
entries_are of number (Some b ∷ slots) few (first, all) (o, octets) =
    ((omega (arith, few), omega arith, first, o), entries_are of (number + 1) slots (omega (arith, few)) all octets)

abbrev entry_words : Place × RecordedBurst → List (List ℕ)
entry_words e = burst_words e.0 e.1

burst_written : (frame slot : ℕ) (cach : Option (List ℕ)) (burst : List ℕ) → frame < 2 ^ 32 → slot < 2 ^ 32 → IsBytes burst
    → IsBytes (unwrap_or cach []) → length burst ≤ 33 → length (unwrap_or cach []) ≤ 3
    → IsWritten (decimal frame ∷ decimal slot ∷ (cach_words cach ++ octets_word burst ∷ []))
burst_written frame slot None burst f s bytes octets long three =
    let words = decimal frame ∷ decimal slot ∷ octets_word burst ∷ [] in
    let joined = joined_length words in
    let a = number_length frame f in
    let b = number_length slot s in
    let c = word_length burst in
    record {
      some = omega arith;
      plain = (decimal_plain frame (omega (arith, f)), (decimal_plain slot (omega (arith, s)), (octets_plain burst bytes, tt)));
      short = omega (arith, joined, a, b, c, long);
    }
burst_written frame slot (Some cach) burst f s bytes octets long three =
    let words = decimal frame ∷ decimal slot ∷ octets_word cach ∷ octets_word burst ∷ [] in
    let joined = joined_length words in
    let a = number_length frame f in
    let b = number_length slot s in
    let c = word_length burst in
    let d = word_length cach in
    record {
      some = omega arith;
      plain = (
        decimal_plain frame (omega (arith, f)),
        (decimal_plain slot (omega (arith, s)), (octets_plain cach octets, (octets_plain burst bytes, tt))),
      );
      short = omega (arith, joined, a, b, c, d, long, three);
    }

burst_long : (of : Recording) (b : RecordedBurst) → IsBurstOf of b → length b.burst ≤ 33
burst_long Uplink b (none, long) = omega (arith, long)
burst_long Downlink b (some, long) = omega (arith, long)

cach_long : (of : Recording) (b : RecordedBurst) → IsBurstOf of b → length (unwrap_or b.cach []) ≤ 3
cach_long Uplink b (none, long) =
    let e : length (unwrap_or b.cach []) ≡ 0 = ap (λ (o : Option (List ℕ)). length (unwrap_or o [])) none in omega (arith, e)
cach_long Downlink b ((cach, some, three), long) =
    let e : length (unwrap_or b.cach []) ≡ length cach = ap (λ (o : Option (List ℕ)). length (unwrap_or o [])) some in
    omega (arith, e, three)

entry_written : (of : Recording) (e : Place × RecordedBurst) → IsEntry of e → IsWritten (entry_words e)
entry_written of e (f, s, is_burst, (burst, cach)) =
    burst_written e.0.frame e.0.slot e.1.cach e.1.burst f s burst cach (burst_long of e.1 is_burst) (cach_long of e.1 is_burst)

says_burst : (of : Recording) (b : RecordedBurst) → IsBurstOf of b → HasSlotOctets (Some b)
    → SaysBurst of (cach_words b.cach ++ octets_word b.burst ∷ []) b
says_burst Uplink b (none, long) (burst, octets) = (
  octets_word b.burst,
  ap (λ (o : Option (List ℕ)). cach_words o ++ octets_word b.burst ∷ []) none,
  none,
  sized b.burst 33 long (omega arith) burst,
)
says_burst Downlink b ((cach, some, three), long) (burst, octets) = (
  octets_word cach,
  octets_word b.burst,
  cach,
  ap (λ (o : Option (List ℕ)). cach_words o ++ octets_word b.burst ∷ []) some,
  some,
  sized cach 3 three (omega arith) (subst (λ (o : Option (List ℕ)). IsBytes (unwrap_or o [])) some octets),
  sized b.burst 33 long (omega arith) burst,
)

says_entry : (of : Recording) (e : Place × RecordedBurst) → IsEntry of e → SaysEntry of (entry_words e) e
says_entry of e (f, s, is_burst, octets) =
    (cach_words e.1.cach ++ octets_word e.1.burst ∷ [], refl, says_burst of e.1 is_burst octets)

-- a record of a list
slot_small : (slot : ℕ) → IsSlot slot → slot < 2 ^ 32
slot_small slot (inl e) = omega (arith, e)
slot_small slot (inr e) = omega (arith, e)

confirmed_plain : (b : Bool) → IsPlain (confirmed_word b) × (length (confirmed_word b) ≤ 11)
confirmed_plain true = (plain_tested (confirmed_word true) refl (omega arith), omega arith)
confirmed_plain false = (plain_tested (confirmed_word false) refl (omega arith), omega arith)

rate_plain : (b : Bool) → IsPlain (rate_word b) × (length (rate_word b) ≤ 4)
rate_plain true = (plain_tested (rate_word true) refl (omega arith), omega arith)
rate_plain false = (plain_tested (rate_word false) refl (omega arith), omega arith)

kind_plain : (k : ReceivedKind) → IsPlain (kind_word k) × (length (kind_word k) ≤ 10)
kind_plain Datagram = (plain_tested (kind_word Datagram) refl (omega arith), omega arith)
kind_plain ShortData = (plain_tested (kind_word ShortData) refl (omega arith), omega arith)
kind_plain Status = (plain_tested (kind_word Status) refl (omega arith), omega arith)

sending_written : (s : Sending) → IsSending s × IsBytes s.datagram → IsWritten (sending_words s)
sending_written s (is_sending, bytes) =
    let joined = joined_length (sending_words s) in
    let frame = is_sending.frame in
    let slot = slot_small s.slot is_sending.slot in
    let long = is_sending.datagram in
    let a = number_length s.frame frame in
    let b = number_length s.slot slot in
    let (confirmed, c) = confirmed_plain s.confirmed in
    let (full, d) = rate_plain s.full in
    let e = word_length s.datagram in
    record {
      some = omega arith;
      plain = (
        decimal_plain s.frame (omega (arith, frame)),
        (decimal_plain s.slot (omega (arith, slot)), (confirmed, (full, (octets_plain s.datagram bytes, tt)))),
      );
      short = omega (arith, joined, a, b, c, d, e, long);
    }

receipt_written : (r : Receipt) → IsReadable r × IsBytes r.octets → IsWritten (receipt_words r)
receipt_written r ((is_receipt, is_slot), bytes) =
    let joined = joined_length (receipt_words r) in
    let frame = is_receipt.frame in
    let source = is_receipt.source in
    let slot = slot_small r.slot is_slot in
    let long = is_receipt.octets in
    let a = number_length r.frame frame in
    let b = number_length r.slot slot in
    let (kind, c) = kind_plain r.kind in
    let d = number_length r.source (omega (arith, source)) in
    let e = word_length r.octets in
    record {
      some = omega arith;
      plain = (
        decimal_plain r.frame (omega (arith, frame)),
        (
          decimal_plain r.slot (omega (arith, slot)),
          (kind, (decimal_plain r.source (omega (arith, source)), (octets_plain r.octets bytes, tt))),
        ),
      );
      short = omega (arith, joined, a, b, c, d, e, long);
    }

says_sending : (s : Sending) → IsSending s × IsBytes s.datagram → SaysSending (sending_words s) s
says_sending s (is_sending, bytes) = (octets_word s.datagram, says_octets s.datagram bytes, refl)

says_receipt : (r : Receipt) → IsReadable r × IsBytes r.octets → SaysReceipt (receipt_words r) r
says_receipt r (is_receipt, bytes) = (octets_word r.octets, says_octets r.octets bytes, refl)

-- the first line
format_plain : (f : FileFormat) → IsPlain (format_word f) × (length (format_word f) ≤ 8)
format_plain format.Uplink = (plain_tested (format_word format.Uplink) refl (omega arith), omega arith)
format_plain format.Downlink = (plain_tested (format_word format.Downlink) refl (omega arith), omega arith)
format_plain format.Outgoing = (plain_tested (format_word format.Outgoing) refl (omega arith), omega arith)
format_plain format.Received = (plain_tested (format_word format.Received) refl (omega arith), omega arith)

title_plain : IsPlain (codes "dmrgate")
title_plain = plain_tested (codes "dmrgate") refl (omega arith)

version_plain : IsPlain (codes "1")
version_plain = plain_tested (codes "1") refl (omega arith)

-- the text of a file whose records are these lines, and whose last line has these words
module _ (file : File) (lines : List (List (List ℕ))) (w v : List ℕ) (same : records_lines file ≡ flat_map line_of lines)
    (written : AllByRecursion IsWritten lines) (last : line_of (w ∷ v ∷ []) ≡ last_line (carried_of file)) (plain : IsPlain w)
    (plain' : IsPlain v) where
  abbrev title : List ℕ
  title = line_of (title_words (file_format file))

  abbrev ending : List ℕ
  ending = line_of (w ∷ v ∷ []) ++ []

  text_parts : file_text file ≡ title ++ (flat_map line_of lines ++ ending)
  text_parts =
      append_assoc title (records_lines file) (last_line (carried_of file))
      ∙ ap (λ (l : List ℕ). title ++ (l ++ last_line (carried_of file))) same
      ∙ ap (λ (l : List ℕ). title ++ (flat_map line_of lines ++ l)) (sym last ∙ sym (append-nil (line_of (w ∷ v ∷ []))))

  pub text_short : length w + length v ≤ 100 → has_short_lines (file_text file) ≡ true
  text_short few =
      let (named, long) = format_plain (file_format file) in
      let joined = joined_length (title_words (file_format file)) in
      let joined' = joined_length (w ∷ v ∷ []) in
      ap has_short_lines text_parts
      ∙ line_short (codes "dmrgate") (format_word (file_format file) ∷ codes "1" ∷ []) title_plain (named, (version_plain, tt))
      (flat_map line_of lines ++ ending) (omega (arith, joined, long))
      ∙ lines_short lines written ending
      ∙ line_short w (v ∷ []) plain (plain', tt) [] (omega (arith, joined', few))

  pub text_says : last_words (carried_of file) ≡ w ∷ v ∷ [] → SaysRecords lines file → AreRecords file → IsWithinLimit file
      → HasWholeFrames file → SaysFile (worded_behind 0 (file_text file)) file
  text_says counted says records within whole =
      let (named, long) = format_plain (file_format file) in
      let f = format_word (file_format file) in
      let behind = lines_told lines written 1 ending in
      let n = 1 + length lines in
      let first = numbered_line (0 + 1) (join_with_byte 32 (title_words (file_format file))) in
      let end = numbered_line (n + 1) (join_with_byte 32 (w ∷ v ∷ [])) in
      record {
        first = first;
        others = behind.told ++ end ∷ [];
        parts = ap (worded_behind 0) text_parts
            ∙ line_told (codes "dmrgate") (f ∷ codes "1" ∷ []) title_plain (named, (version_plain, tt)) 0
            (flat_map line_of lines ++ ending)
            ∙ ap (λ (l : List Line). first ∷ l) (behind.text
            ∙ ap (λ (l : List Line). behind.told ++ l) (line_told w (v ∷ []) plain (plain', tt) n []));
        format = words_joined (codes "dmrgate") (f ∷ codes "1" ∷ []) title_plain (named, (version_plain, tt));
        whole = record {
          before = behind.told;
          last = end;
          parts = refl;
          says = subst (λ (l : List (List (List ℕ))). SaysRecords l file) (sym behind.words) says;
          count = words_joined w (v ∷ []) plain (plain', tt) ∙ sym counted;
          records = records;
          within = within;
          whole = whole;
        };
      }

frames_plain : IsPlain (codes "frames")
frames_plain = plain_tested (codes "frames") refl (omega arith)

records_plain : IsPlain (codes "records")
records_plain = plain_tested (codes "records") refl (omega arith)

limit_small : (of : Recording) → slot_limit_of of < 2 ^ 31
limit_small Uplink = omega arith
limit_small Downlink = omega arith

-- what such a text says, and that none of its lines is too long
pub record IsReadBack (file : File) : Type 0 where
  pub says : SaysFile (worded_behind 0 (file_text file)) file
  pub short : has_short_lines (file_text file) ≡ true

-- the text that is written of a file says the file, and none of its lines is too long
pub read_back : (file : File) → AreRecords file → IsWithinLimit file → HasWholeFrames file → HasOctets file → IsReadBack file
read_back (Slots of slots) records within whole octets =
    let small = limit_small of in
    let all = entries_are of 0 slots (omega (arith, within, small)) records octets in
    let es = entries 0 slots in
    let words = map entry_words es in
    let count = length slots / 2 in
    let same = lines_mapped entry_words es in
    let written = all_map (IsEntry of) IsWritten entry_words (entry_written of) es all in
    let number = number_length count (omega (arith, within, small)) in
    let plain = decimal_plain count (omega (arith, within, small)) in
    record {
      says = text_says (Slots of slots) words (codes "frames") (decimal count) same written refl frames_plain plain refl
          (zip_map (IsEntry of) (SaysEntry of) entry_words (says_entry of) es all) records within whole;
      short = text_short (Slots of slots) words (codes "frames") (decimal count) same written refl frames_plain plain
          (omega (arith, number));
    }
read_back (Sendings sendings) (each, order) within whole octets =
    let all = both IsSending (λ (s : Sending). IsBytes s.datagram) sendings each octets in
    let Good = λ (s : Sending). IsSending s × IsBytes s.datagram in
    let count = length sendings in
    let same = lines_mapped sending_words sendings in
    let written = all_map Good IsWritten sending_words sending_written sendings all in
    let number = number_length count (omega (arith, within)) in
    let plain = decimal_plain count (omega (arith, within)) in
    record {
      says = text_says (Sendings sendings) (map sending_words sendings) (codes "records") (decimal count) same written refl
          records_plain plain refl (zip_map Good SaysSending sending_words says_sending sendings all) (each, order) within whole;
      short = text_short (Sendings sendings) (map sending_words sendings) (codes "records") (decimal count) same written refl
          records_plain plain (omega (arith, number));
    }
read_back (Receipts receipts) (each, order) within whole octets =
    let all = both IsReadable (λ (r : Receipt). IsBytes r.octets) receipts each octets in
    let Good = λ (r : Receipt). IsReadable r × IsBytes r.octets in
    let count = length receipts in
    let same = lines_mapped receipt_words receipts in
    let written = all_map Good IsWritten receipt_words receipt_written receipts all in
    let number = number_length count (omega (arith, within)) in
    let plain = decimal_plain count (omega (arith, within)) in
    record {
      says = text_says (Receipts receipts) (map receipt_words receipts) (codes "records") (decimal count) same written refl
          records_plain plain refl (zip_map Good SaysReceipt receipt_words says_receipt receipts all) (each, order) within whole;
      short = text_short (Receipts receipts) (map receipt_words receipts) (codes "records") (decimal count) same written refl
          records_plain plain (omega (arith, number));
    }

-- the lines of that text say the file
pub says_itself : (file : File) → AreRecords file → IsWithinLimit file → HasWholeFrames file → HasOctets file
    → SaysFile (worded_behind 0 (file_text file)) file
says_itself file records within whole octets = (read_back file records within whole octets).says

-- none of the lines of that text is too long
pub is_short : (file : File) → AreRecords file → IsWithinLimit file → HasWholeFrames file → HasOctets file
    → has_short_lines (file_text file) ≡ true
is_short file records within whole octets = (read_back file records within whole octets).short

-- what is imported of it is the file
pub imported_back : (carried : Carried) (left left' held held' : Option (List ℕ))
    (imported : IsImported carried left left' held held') (file : File) → AreRecords file → IsWithinLimit file
    → HasWholeFrames file → HasOctets file → imported.text ≡ file_text file
    → imported.file ≡ file
imported_back carried left left' held held' imported file records within whole octets same =
    file_one (worded_behind 0 imported.text) imported.file file imported.says
    (subst (λ (t : List ℕ). SaysFile (worded_behind 0 t) file) (sym same) (says_itself file records within whole octets))
