-- A text says one file.
use Rattle.std.proofs.Common.{◌≡◌, inl, inr, ℕ, ◌+◌, ◌/◌, ◌%◌, ◌<◌, ◌≤◌, ◌^◌, Bool, true, false, List, [], ◌∷◌}
use Rattle.std.proofs.Common.{length, Option, None, Some, refl, sym, ap, ◌∙◌, subst, arith}
use Rattle.std.specs.Prelude.{decimal}
use Rattle.std.specs.List.{AllByRecursion, AllZip}
use Rattle.std.proofs.lemmas.Fmt.{decimal_injective}
use Rattle.std.proofs.lemmas.List.{same_from_push}
use Rattle.dmr_words.specs.Lines.{Line}
use Rattle.dmr_words.specs.Words.{line_words}
use Rattle.dmr_record.specs.Outgoing.{IsSending, Sending}
use Rattle.dmr_record.specs.Received.{IsReadable, IsSlot, Receipt}
use Rattle.dmr_record.specs.declared.head.FileFormat.{FileFormat}
use Rattle.dmr_record.specs.declared.head.FileFormat.TheVariants as format
use Rattle.dmr_record.specs.declared.received.ReceivedKind.{ReceivedKind}
use Rattle.dmr_record.specs.declared.received.ReceivedKind.TheVariants.{Datagram, ShortData, Status}
use Rattle.dmr_recording.specs.Places.{entries, place_by_number}
use Rattle.dmr_recording.specs.Recordings.{RecordedSlot, slot_limit_of}
use Rattle.dmr_recording.specs.declared.place.Place.{Place}
use Rattle.dmr_recording.specs.declared.recording.RecordedBurst.{RecordedBurst}
use Rattle.dmr_recording.specs.declared.recording.Recording.{Recording}
use Rattle.dmr_recording.specs.declared.recording.Recording.TheVariants.{Uplink, Downlink}
use Rattle.dmr_text.specs.Files.{AreRecords, File, HasWholeFrames, Receipts, Sendings, Slots, carried_of, file_format}
use Rattle.dmr_text.specs.Imports.{SaysFile}
use Rattle.dmr_text.specs.Says.{IsWithinLimit, SaysBurst, SaysEntry, SaysOctets, SaysReceipt, SaysRecords, SaysSending}
use Rattle.dmr_text.specs.Says.{last_words, words_of_lines}
use Rattle.dmr_text.specs.Spelling.{confirmed_word, frames_words, kind_word, rate_word, title_words}

-- a number that fits any word that is one
abbrev Fits : ℕ → Type 0
Fits n = n < 2 ^ 64

one : (m n : ℕ) → Fits m → Fits n → decimal m ≡ decimal n → m ≡ n
one m n fits fits' e = decimal_injective m n fits fits' e

-- what each word says is one thing, so what all of them say is one list
zip_one : {A B : Type 0} (R : A → B → Type 0) (Fit : B → Type 0) → ((x : A) (y z : B) → Fit y → Fit z → R x y → R x z → y ≡ z)
    → (xs : List A) (ys zs : List B) → AllByRecursion Fit ys → AllByRecursion Fit zs → AllZip R xs ys → AllZip R xs zs → ys ≡ zs
zip_one R Fit each [] [] [] fy fz ry rz = refl
zip_one R Fit each [] [] (z ∷ zs) fy fz ry rz = absurd rz
zip_one R Fit each [] (y ∷ ys) zs fy fz ry rz = absurd ry
zip_one R Fit each (x ∷ xs) [] zs fy fz ry rz = absurd ry
zip_one R Fit each (x ∷ xs) (y ∷ ys) [] fy fz ry rz = absurd rz
zip_one R Fit each (x ∷ xs) (y ∷ ys) (z ∷ zs) (fy, fys) (fz, fzs) (ry, rys) (rz, rzs) =
    let first = each x y z fy fz ry rz in
    let rest = zip_one R Fit each xs ys zs fys fzs rys rzs in
    cc (first, rest)

abbrev burst_of : Option (List ℕ) → List ℕ → RecordedBurst
burst_of cach octets = record { cach = cach; burst = octets }

burst_one : (of : Recording) (words : List (List ℕ)) (b c : RecordedBurst) → SaysBurst of words b → SaysBurst of words c → b ≡ c
burst_one Uplink words b c (w, e, none, d) (w', e', none', d') =
    let same : w ≡ w' = cc (e, e') in
    let octets : b.burst ≡ c.burst = cc (d, d', same) in
    ap (λ (o : Option (List ℕ)). burst_of o b.burst) (none ∙ sym none') ∙ ap (λ (o : List ℕ). burst_of c.cach o) octets
burst_one Downlink words b c (w, v, cach, e, some, d, f) (w', v', cach', e', some', d', f') =
    let same : w ≡ w' = cc (e, e') in
    let same' : v ≡ v' = cc (e, e') in
    let front : cach ≡ cach' = cc (d, d', same) in
    let octets : b.burst ≡ c.burst = cc (f, f', same') in
    ap (λ (o : Option (List ℕ)). burst_of o b.burst) (some ∙ ap Some front ∙ sym some')
    ∙ ap (λ (o : List ℕ). burst_of c.cach o) octets

abbrev entry_of : ℕ → ℕ → RecordedBurst → Place × RecordedBurst
entry_of frame slot burst = (record { frame = frame; slot = slot }, burst)

abbrev FitsEntry : Place × RecordedBurst → Type 0
FitsEntry e = Fits e.0.frame × Fits e.0.slot

entry_one : (of : Recording) (words : List (List ℕ)) (e f : Place × RecordedBurst) → FitsEntry e → FitsEntry f
    → SaysEntry of words e
    → SaysEntry of words f → e ≡ f
entry_one of words e f (fe, se) (ff, sf) (rest, w, says) (rest', w', says') =
    let frame : decimal e.0.frame ≡ decimal f.0.frame = cc (w, w') in
    let slot : decimal e.0.slot ≡ decimal f.0.slot = cc (w, w') in
    let same : rest ≡ rest' = cc (w, w') in
    let burst = burst_one of rest e.1 f.1 says (subst (λ (r : List (List ℕ)). SaysBurst of r f.1) (sym same) says') in
    ap (λ (n : ℕ). entry_of n e.0.slot e.1) (one e.0.frame f.0.frame fe ff frame)
    ∙ ap (λ (n : ℕ). entry_of f.0.frame n e.1) (one e.0.slot f.0.slot se sf slot)
    ∙ ap (λ (b : RecordedBurst). entry_of f.0.frame f.0.slot b) burst

entries_fit : (number : ℕ) (slots : List RecordedSlot) → number + length slots < 2 ^ 32
    → AllByRecursion FitsEntry (entries number slots)
entries_fit number [] few = tt
entries_fit number (None ∷ slots) few = entries_fit (number + 1) slots (omega arith)
entries_fit number (Some b ∷ slots) few = ((omega arith, omega arith), entries_fit (number + 1) slots (omega arith))

abbrev entry_at : ℕ → RecordedBurst → Place × RecordedBurst
entry_at number burst = (place_by_number number, burst)

-- an entry of a slot stands in front of those of later slots
entries_later : (n m : ℕ) (slots : List RecordedSlot) (b : RecordedBurst) (rest : List (Place × RecordedBurst)) → n < m
    → entries m slots ≡ (place_by_number n, b) ∷ rest → ⊥
entries_later n m [] b rest later e = cc e
entries_later n m (None ∷ slots) b rest later e = entries_later n (m + 1) slots b rest (omega arith) e
entries_later n m (Some c ∷ slots) b rest later e =
    let pair : entry_at m c ≡ entry_at n b = cc e in
    let places = ap (λ (x : Place × RecordedBurst). x.0) pair in
    let frame : m / 2 ≡ n / 2 = ap (λ (p : Place). p.frame) places in
    let slot : m % 2 + 1 ≡ n % 2 + 1 = ap (λ (p : Place). p.slot) places in
    absurd (omega (arith, frame, slot, later))

-- slots are one by their entries, where they are as many
slots_one : (number : ℕ) (slots others : List RecordedSlot) → length slots ≡ length others
    → entries number slots ≡ entries number others → slots ≡ others
slots_one number [] [] long e = refl
slots_one number [] (o ∷ others) long e = absurd (omega (arith, long))
slots_one number (s ∷ slots) [] long e = absurd (omega (arith, long))
slots_one number (None ∷ slots) (None ∷ others) long e =
    ap (λ (l : List RecordedSlot). None ∷ l) (slots_one (number + 1) slots others (omega (arith, long)) e)
slots_one number (None ∷ slots) (Some c ∷ others) long e =
    absurd (entries_later number (number + 1) slots c (entries (number + 1) others) (omega arith) e)
slots_one number (Some b ∷ slots) (None ∷ others) long e =
    absurd (entries_later number (number + 1) others b (entries (number + 1) slots) (omega arith) (sym e))
slots_one number (Some b ∷ slots) (Some c ∷ others) long e =
    let pair : entry_at number b ≡ entry_at number c = cc e in
    let burst = ap (λ (x : Place × RecordedBurst). x.1) pair in
    let behind : entries (number + 1) slots ≡ entries (number + 1) others = cc e in
    let rest = slots_one (number + 1) slots others (omega (arith, long)) behind in
    ap (λ (x : RecordedBurst). Some x ∷ slots) burst ∙ ap (λ (l : List RecordedSlot). Some c ∷ l) rest

octets_one : (word octets others : List ℕ) → SaysOctets word octets → SaysOctets word others → octets ≡ others
octets_one word octets others (inl (h, e)) (inl (h', e')) = e ∙ sym e'
octets_one word octets others (inl (h, e)) (inr (some, d)) = let f = rw h at d in cc f
octets_one word octets others (inr (some, d)) (inl (h, e)) = let f = rw h at d in cc f
octets_one word octets others (inr (some, d)) (inr (some', d')) = cc (d, d')

pub confirmed_one : (a b : Bool) → confirmed_word a ≡ confirmed_word b → a ≡ b
confirmed_one true true e = refl
confirmed_one true false e = cc e
confirmed_one false true e = cc e
confirmed_one false false e = refl

-- the first letter of a word
abbrev letter_of : List ℕ → ℕ
letter_of [] = 0
letter_of (c ∷ word) = c

pub rate_one : (a b : Bool) → rate_word a ≡ rate_word b → a ≡ b
rate_one true true e = refl
rate_one true false e = let letter : 102 ≡ 104 = ap letter_of e in absurd (omega (arith, letter))
rate_one false true e = let letter : 104 ≡ 102 = ap letter_of e in absurd (omega (arith, letter))
rate_one false false e = refl

pub kind_one : (a b : ReceivedKind) → kind_word a ≡ kind_word b → a ≡ b
kind_one Datagram Datagram e = refl
kind_one Datagram ShortData e = cc e
kind_one Datagram Status e = cc e
kind_one ShortData Datagram e = cc e
kind_one ShortData ShortData e = refl
kind_one ShortData Status e = cc e
kind_one Status Datagram e = cc e
kind_one Status ShortData e = cc e
kind_one Status Status e = refl

slot_fits : (slot : ℕ) → IsSlot slot → Fits slot
slot_fits slot (inl e) = omega arith
slot_fits slot (inr e) = omega arith

abbrev sending : ℕ → ℕ → Bool → Bool → List ℕ → Sending
sending frame slot confirmed full datagram =
    record { frame = frame; slot = slot; confirmed = confirmed; full = full; datagram = datagram }

sending_one : (words : List (List ℕ)) (s t : Sending) → IsSending s → IsSending t → SaysSending words s
    → SaysSending words t → s ≡ t
sending_one words s t fs ft (o, says, w) (p, says', w') =
    let frames : decimal s.frame ≡ decimal t.frame = cc (w, w') in
    let slots : decimal s.slot ≡ decimal t.slot = cc (w, w') in
    let modes : confirmed_word s.confirmed ≡ confirmed_word t.confirmed = cc (w, w') in
    let rates : rate_word s.full ≡ rate_word t.full = cc (w, w') in
    let same : o ≡ p = cc (w, w') in
    let frame = fs.frame in
    let frame' = ft.frame in
    ap (λ (x : ℕ). sending x s.slot s.confirmed s.full s.datagram)
    (one s.frame t.frame (omega (arith, frame)) (omega (arith, frame')) frames)
    ∙ ap (λ (x : ℕ). sending t.frame x s.confirmed s.full s.datagram)
    (one s.slot t.slot (slot_fits s.slot fs.slot) (slot_fits t.slot ft.slot) slots)
    ∙ ap (λ (x : Bool). sending t.frame t.slot x s.full s.datagram) (confirmed_one s.confirmed t.confirmed modes)
    ∙ ap (λ (x : Bool). sending t.frame t.slot t.confirmed x s.datagram) (rate_one s.full t.full rates)
    ∙ ap (λ (x : List ℕ). sending t.frame t.slot t.confirmed t.full x)
    (octets_one o s.datagram t.datagram says (subst (λ (x : List ℕ). SaysOctets x t.datagram) (sym same) says'))

abbrev receipt : ℕ → ℕ → ReceivedKind → ℕ → List ℕ → Receipt
receipt frame slot kind source octets = record { frame = frame; slot = slot; kind = kind; source = source; octets = octets }

receipt_one : (words : List (List ℕ)) (s t : Receipt) → IsReadable s → IsReadable t → SaysReceipt words s
    → SaysReceipt words t → s ≡ t
receipt_one words s t (fs, ss) (ft, st) (o, says, w) (p, says', w') =
    let frames : decimal s.frame ≡ decimal t.frame = cc (w, w') in
    let slots : decimal s.slot ≡ decimal t.slot = cc (w, w') in
    let kinds : kind_word s.kind ≡ kind_word t.kind = cc (w, w') in
    let sources : decimal s.source ≡ decimal t.source = cc (w, w') in
    let same : o ≡ p = cc (w, w') in
    let frame = fs.frame in
    let frame' = ft.frame in
    let source = fs.source in
    let source' = ft.source in
    ap (λ (x : ℕ). receipt x s.slot s.kind s.source s.octets)
    (one s.frame t.frame (omega (arith, frame)) (omega (arith, frame')) frames)
    ∙ ap (λ (x : ℕ). receipt t.frame x s.kind s.source s.octets)
    (one s.slot t.slot (slot_fits s.slot ss) (slot_fits t.slot st) slots)
    ∙ ap (λ (x : ReceivedKind). receipt t.frame t.slot x s.source s.octets) (kind_one s.kind t.kind kinds)
    ∙ ap (λ (x : ℕ). receipt t.frame t.slot t.kind x s.octets)
    (one s.source t.source (omega (arith, source)) (omega (arith, source')) sources)
    ∙ ap (λ (x : List ℕ). receipt t.frame t.slot t.kind t.source x)
    (octets_one o s.octets t.octets says (subst (λ (x : List ℕ). SaysOctets x t.octets) (sym same) says'))

-- the first letter of the second word
abbrev format_letter : List (List ℕ) → ℕ
format_letter (title ∷ word ∷ rest) = letter_of word
format_letter _ = 0

format_one : (a b : FileFormat) → title_words a ≡ title_words b → a ≡ b
format_one format.Uplink format.Uplink e = refl
format_one format.Uplink format.Downlink e = let letter : 117 ≡ 100 = ap format_letter e in absurd (omega (arith, letter))
format_one format.Uplink format.Outgoing e = let letter : 117 ≡ 111 = ap format_letter e in absurd (omega (arith, letter))
format_one format.Uplink format.Received e = let letter : 117 ≡ 114 = ap format_letter e in absurd (omega (arith, letter))
format_one format.Downlink format.Uplink e = let letter : 100 ≡ 117 = ap format_letter e in absurd (omega (arith, letter))
format_one format.Downlink format.Downlink e = refl
format_one format.Downlink format.Outgoing e = let letter : 100 ≡ 111 = ap format_letter e in absurd (omega (arith, letter))
format_one format.Downlink format.Received e = let letter : 100 ≡ 114 = ap format_letter e in absurd (omega (arith, letter))
format_one format.Outgoing format.Uplink e = let letter : 111 ≡ 117 = ap format_letter e in absurd (omega (arith, letter))
format_one format.Outgoing format.Downlink e = let letter : 111 ≡ 100 = ap format_letter e in absurd (omega (arith, letter))
format_one format.Outgoing format.Outgoing e = refl
format_one format.Outgoing format.Received e = let letter : 111 ≡ 114 = ap format_letter e in absurd (omega (arith, letter))
format_one format.Received format.Uplink e = let letter : 114 ≡ 117 = ap format_letter e in absurd (omega (arith, letter))
format_one format.Received format.Downlink e = let letter : 114 ≡ 100 = ap format_letter e in absurd (omega (arith, letter))
format_one format.Received format.Outgoing e = let letter : 114 ≡ 111 = ap format_letter e in absurd (omega (arith, letter))
format_one format.Received format.Received e = refl

limit_small : (of : Recording) → slot_limit_of of < 2 ^ 31
limit_small Uplink = omega arith
limit_small Downlink = omega arith

recording_one : (of : Recording) (words : List (List (List ℕ))) (s t : List RecordedSlot)
    → AllZip (SaysEntry of) words (entries 0 s) → AllZip (SaysEntry of) words (entries 0 t)
    → frames_words (length s / 2) ≡ frames_words (length t / 2) → length s ≤ slot_limit_of of → length t ≤ slot_limit_of of
    → length s % 2 ≡ 0 → length t % 2 ≡ 0 → s ≡ t
recording_one of words s t says says' count within within' whole whole' =
    let small = limit_small of in
    let counts : decimal (length s / 2) ≡ decimal (length t / 2) = cc count in
    let half = one (length s / 2) (length t / 2) (omega (arith, within, small)) (omega (arith, within', small)) counts in
    slots_one 0 s t (omega (arith, half, whole, whole'))
    (zip_one (SaysEntry of) FitsEntry (entry_one of) words (entries 0 s) (entries 0 t)
    (entries_fit 0 s (omega (arith, within, small))) (entries_fit 0 t (omega (arith, within', small))) says says')

files_one : (f g : File) (words : List (List (List ℕ))) → file_format f ≡ file_format g → SaysRecords words f → SaysRecords words g
    → last_words (carried_of f) ≡ last_words (carried_of g) → AreRecords f → AreRecords g → IsWithinLimit f → IsWithinLimit g
    → HasWholeFrames f → HasWholeFrames g → f ≡ g
files_one (Slots Uplink s) (Slots Uplink t) words same says says' count are are' within within' whole whole' =
    ap (Slots Uplink) (recording_one Uplink words s t says says' count within within' whole whole')
files_one (Slots Downlink s) (Slots Downlink t) words same says says' count are are' within within' whole whole' =
    ap (Slots Downlink) (recording_one Downlink words s t says says' count within within' whole whole')
files_one (Sendings s) (Sendings t) words same says says' count (are, order) (are', order') within within' whole whole' =
    ap Sendings (zip_one SaysSending IsSending sending_one words s t are are' says says')
files_one (Receipts s) (Receipts t) words same says says' count (are, order) (are', order') within within' whole whole' =
    ap Receipts (zip_one SaysReceipt IsReadable receipt_one words s t are are' says says')
files_one (Slots Uplink s) (Slots Downlink t) words same says says' count are are' within within' whole whole' = cc same
files_one (Slots Uplink s) (Sendings t) words same says says' count are are' within within' whole whole' = cc same
files_one (Slots Uplink s) (Receipts t) words same says says' count are are' within within' whole whole' = cc same
files_one (Slots Downlink s) (Slots Uplink t) words same says says' count are are' within within' whole whole' = cc same
files_one (Slots Downlink s) (Sendings t) words same says says' count are are' within within' whole whole' = cc same
files_one (Slots Downlink s) (Receipts t) words same says says' count are are' within within' whole whole' = cc same
files_one (Sendings s) (Slots Uplink t) words same says says' count are are' within within' whole whole' = cc same
files_one (Sendings s) (Slots Downlink t) words same says says' count are are' within within' whole whole' = cc same
files_one (Sendings s) (Receipts t) words same says says' count are are' within within' whole whole' = cc same
files_one (Receipts s) (Slots Uplink t) words same says says' count are are' within within' whole whole' = cc same
files_one (Receipts s) (Slots Downlink t) words same says says' count are are' within within' whole whole' = cc same
files_one (Receipts s) (Sendings t) words same says says' count are are' within within' whole whole' = cc same

-- lines say one file
pub file_one : (lines : List Line) (f g : File) → SaysFile lines f → SaysFile lines g → f ≡ g
file_one lines f g a b =
    let parts = a.parts in
    let parts' = b.parts in
    let first : a.first ≡ b.first = cc (parts, parts') in
    let others : a.others ≡ b.others = cc (parts, parts') in
    let u = a.whole in
    let v = b.whole in
    let ends = same_from_push u.before v.before u.last v.last (sym u.parts ∙ others ∙ v.parts) in
    let title : title_words (file_format f) ≡ title_words (file_format g) =
    sym a.format ∙ ap (λ (l : Line). line_words l.octets) first ∙ b.format in
    let count : last_words (carried_of f) ≡ last_words (carried_of g) =
    sym u.count ∙ ap (λ (l : Line). line_words l.octets) ends.1 ∙ v.count in
    files_one f g (words_of_lines u.before) (format_one (file_format f) (file_format g) title) u.says
    (subst (λ (l : List Line). SaysRecords (words_of_lines l) g) (sym ends.0) v.says)
    count u.records v.records u.within v.within u.whole v.whole
