-- The embedded fields of the voice bursts that a script sends have even octets.
use Rattle.std.proofs.Common.{◌≡◌, ℕ, zero, suc, ◌-◌, ◌<◌, Bool, true, false, List, [], ◌∷◌, ◌++◌, length, replicate, flat_map}
use Rattle.std.proofs.Common.{Option, Some, None, arith, get_or, if◌then◌else◌, lit<, refl, subst, sym}
use Rattle.std.specs.List.{AllByRecursion, Contains}
use Rattle.dmr_bits.specs.Bits.{bits_of_octets}
use Rattle.dmr_burst.specs.declared.emb.Emb.{Emb}
use Rattle.dmr_burst.specs.declared.sync.Side.TheVariants.{Ms}
use Rattle.dmr_embedded.specs.EmbeddedWord.{IsEmbeddedWord, bits_of_fields, column}
use Rattle.dmr_hearing.specs.Damage.{HasNoMobileSync}
use Rattle.dmr_hearing.specs.Slots.{SentSlot, Silent, Data, VoiceSync, Voice, ForeignVoice, ForeignData, CutOff}
use Rattle.dmr_link.specs.declared.full_lc.FullLc.{FullLc}
use Rattle.dmr_making.proofs.CallSlots.{sent_late}
use Rattle.dmr_making.proofs.Seen.{all_append, all_drop, all_same}
use Rattle.dmr_making.proofs.Superframes.{some_there}
use Rattle.dmr_making.specs.Calls.{AreFieldsOf, AreFormsOf, CallForms, carried_by, late_call, place_slot, six_fields, slots_sent}
use Rattle.dmr_making.specs.Calls.{slots_with, superframe_of, superframe_slots, superframes_from, tail_slots, voice_slots}
use Rattle.dmr_making.specs.Made.{IsMade, vocoder_of_frame}
use Rattle.dmr_making.specs.Sends.{SendsCall, SendsSaid, Transmitted}
use Rattle.dmr_making_laws.proofs.CallSlots.{ends_data, ends_of, front_data, front_of, headed_is}
use Rattle.dmr_making_laws.proofs.FarFromSyncs.{HasEvenOctets, far_from_syncs}
use Rattle.dmr_making_laws.proofs.SentSlots.{IsDataOrSilent, said_data}
use Rattle.dmr_script.specs.declared.call.Call.{Call}
use Rattle.dmr_script.specs.declared.packet.PacketTry.{PacketTry}
use Rattle.dmr_script.specs.declared.shape.CallStart.{CallStart}
use Rattle.dmr_script.specs.declared.shape.CallStart.TheVariants as start
use Rattle.dmr_script.specs.declared.statement.Transmission.{Transmission as Said}
use Rattle.dmr_script.specs.declared.statement.Transmission.TheVariants as said
use Rattle.dmr_voice.specs.declared.place.Place.{Place}
use Rattle.dmr_voice.specs.declared.place.Place.TheVariants.{A, B, C, D, E, F}

-- 1. The fields of a superframe.

-- zeros are even
none_even : HasEvenOctets 0
none_even = record { first = refl; second = refl; third = refl; last = refl }

-- each octet of the four fields of an embedded word is a column of it
word_even : (a b c d : ℕ) → IsEmbeddedWord (bits_of_fields (a ∷ b ∷ c ∷ d ∷ []))
    → AllByRecursion HasEvenOctets (a ∷ b ∷ c ∷ d ∷ [])
unfolding column
word_even a b c d is =
    let even = is.columns in
    let first : HasEvenOctets a =
    record { first = even 0 (lit< tt); second = even 1 (lit< tt); third = even 2 (lit< tt); last = even 3 (lit< tt) } in
    let second : HasEvenOctets b =
    record { first = even 4 (lit< tt); second = even 5 (lit< tt); third = even 6 (lit< tt); last = even 7 (lit< tt) } in
    let third : HasEvenOctets c =
    record { first = even 8 (lit< tt); second = even 9 (lit< tt); third = even 10 (lit< tt); last = even 11 (lit< tt) } in
    let last : HasEvenOctets d =
    record { first = even 12 (lit< tt); second = even 13 (lit< tt); third = even 14 (lit< tt); last = even 15 (lit< tt) } in
    (first, (second, (third, (last, tt))))

carrier_even : (fields : List ℕ) → length fields ≡ 4 → IsEmbeddedWord (bits_of_fields fields)
    → AllByRecursion HasEvenOctets fields
carrier_even [] four is = absurd (omega arith)
carrier_even (a ∷ []) four is = absurd (omega arith)
carrier_even (a ∷ b ∷ []) four is = absurd (omega arith)
carrier_even (a ∷ b ∷ c ∷ []) four is = absurd (omega arith)
carrier_even (a ∷ b ∷ c ∷ d ∷ []) four is = word_even a b c d is
carrier_even (a ∷ b ∷ c ∷ d ∷ e ∷ more) four is = absurd (omega arith)

-- the four fields of what a superframe carries
four_even : (carries : Option FullLc) (fields : List ℕ) → AreFieldsOf carries fields → AllByRecursion HasEvenOctets fields
four_even None fields are = subst (AllByRecursion HasEvenOctets) (sym are) (all_same HasEvenOctets 4 0 none_even)
four_even (Some lc) fields are = carrier_even fields are.four are.embedded.word

field_even : (fields : List ℕ) (k : ℕ) → AllByRecursion HasEvenOctets fields → HasEvenOctets (get_or fields k 0)
field_even [] k even = none_even
field_even (f ∷ fs) zero even = even.0
field_even (f ∷ fs) (suc k) even = field_even fs k even.1

-- the field of each of its places
six_even : (carries : Option FullLc) (fields : List ℕ) → AreFieldsOf carries fields
    → AllByRecursion HasEvenOctets (six_fields fields)
six_even carries fields are =
    let even = four_even carries fields are in
    let at : (k : ℕ) → HasEvenOctets (get_or fields k 0) = λ k. field_even fields k even in
    (none_even, (at 0, (at 1, (at 2, (at 3, (none_even, tt))))))

-- 2. The slots of a call.

-- where a voice burst with an EMB is sent, its embedded field has even octets
abbrev pub IsEvenVoice : SentSlot → Type 0
IsEvenVoice Silent = Unit {0}
IsEvenVoice (Data kind information lc) = Unit {0}
IsEvenVoice VoiceSync = Unit {0}
IsEvenVoice (Voice emb embedded) = HasEvenOctets embedded
IsEvenVoice (ForeignVoice emb) = Unit {0}
IsEvenVoice ForeignData = Unit {0}
IsEvenVoice CutOff = Unit {0}

one_even : (slot : SentSlot) → IsDataOrSilent slot → IsEvenVoice slot
one_even Silent p = tt
one_even (Data kind information lc) p = tt
one_even VoiceSync p = absurd p
one_even (Voice emb embedded) p = absurd p
one_even (ForeignVoice emb) p = absurd p
one_even ForeignData p = absurd p
one_even CutOff p = absurd p

data_even : (slots : List SentSlot) → AllByRecursion IsDataOrSilent slots → AllByRecursion IsEvenVoice slots
data_even [] p = tt
data_even (s ∷ slots) p = (one_even s p.0, data_even slots p.1)

place_even : (colour : ℕ) (carries : Option FullLc) (place : Place) (pi there : Bool) (field : ℕ) → HasEvenOctets field
    → IsEvenVoice (place_slot colour carries place (if there then Some (record { pi = pi; embedded = field }) else None))
place_even colour carries place pi false field even = tt
place_even colour carries A pi true field even = tt
place_even colour carries B pi true field even = even
place_even colour carries C pi true field even = even
place_even colour carries D pi true field even = even
place_even colour carries E pi true field even = even
place_even colour carries F pi true field even = even

places_even : (colour : ℕ) (carries : Option FullLc) (pi : Bool) (letters : List Place) (fields : List ℕ) (presence : List Bool)
    → AllByRecursion HasEvenOctets fields → AllByRecursion IsEvenVoice (some_there colour carries pi letters fields presence)
places_even colour carries pi [] fields presence even = tt
places_even colour carries pi (l ∷ ls) [] presence even = tt
places_even colour carries pi (l ∷ ls) (f ∷ fs) [] even = tt
places_even colour carries pi (l ∷ ls) (f ∷ fs) (b ∷ bs) even =
    (place_even colour carries l pi b f even.0, places_even colour carries pi ls fs bs even.1)

superframe_even : (colour : ℕ) (call : Call) (forms : CallForms) (number : ℕ) (part : List Bool) → AreFormsOf call forms
    → AllByRecursion IsEvenVoice (superframe_slots colour (superframe_of call forms.fields number part))
superframe_even colour call forms number part are =
    let carries : Option FullLc = carried_by call.link_control call.carried.items number in
    places_even colour carries call.pi (A ∷ B ∷ C ∷ D ∷ E ∷ F ∷ []) (six_fields (forms.fields number)) part
    (six_even carries (forms.fields number) (are.fields number))

-- one superframe and those behind it
more_even : (colour : ℕ) (call : Call) (forms : CallForms) (number : ℕ) (part : List Bool) (rest : List SentSlot)
    → AreFormsOf call forms → AllByRecursion IsEvenVoice rest
    → AllByRecursion IsEvenVoice (superframe_slots colour (superframe_of call forms.fields number part) ++ rest)
more_even colour call forms number part rest are even =
    all_append IsEvenVoice (superframe_slots colour (superframe_of call forms.fields number part)) rest
    (superframe_even colour call forms number part are) even

superframes_even : (colour : ℕ) (call : Call) (forms : CallForms) (number : ℕ) (bs : List Bool) → AreFormsOf call forms
    → AllByRecursion IsEvenVoice (flat_map (superframe_slots colour) (superframes_from call forms.fields number bs))
superframes_even colour call forms number [] are = tt
superframes_even colour call forms number (a ∷ b ∷ c ∷ d ∷ e ∷ f ∷ more) are =
    more_even colour call forms number (a ∷ b ∷ c ∷ d ∷ e ∷ f ∷ [])
    (flat_map (superframe_slots colour) (superframes_from call forms.fields (suc number) more)) are
    (superframes_even colour call forms (suc number) more are)
superframes_even colour call forms number (a ∷ []) are = more_even colour call forms number (a ∷ []) [] are tt
superframes_even colour call forms number (a ∷ b ∷ []) are = more_even colour call forms number (a ∷ b ∷ []) [] are tt
superframes_even colour call forms number (a ∷ b ∷ c ∷ []) are = more_even colour call forms number (a ∷ b ∷ c ∷ []) [] are tt
superframes_even colour call forms number (a ∷ b ∷ c ∷ d ∷ []) are =
    more_even colour call forms number (a ∷ b ∷ c ∷ d ∷ []) [] are tt
superframes_even colour call forms number (a ∷ b ∷ c ∷ d ∷ e ∷ []) are =
    more_even colour call forms number (a ∷ b ∷ c ∷ d ∷ e ∷ []) [] are tt

voice_even : (colour : ℕ) (call : Call) (forms : CallForms) → AreFormsOf call forms
    → AllByRecursion IsEvenVoice (voice_slots colour call forms)
voice_even colour call forms are =
    let places : List Bool = call.shape.places.items in
    all_append IsEvenVoice (flat_map (superframe_slots colour) (superframes_from call forms.fields 0 places)) (ends_of call forms)
    (superframes_even colour call forms 0 places are) (data_even (ends_of call forms) (ends_data call forms))

-- in front of the first A of a late call
tail_even : (colour : ℕ) (call : Call) (forms : CallForms) (tail : List Bool) → AreFormsOf call forms
    → AllByRecursion IsEvenVoice (tail_slots colour call forms tail)
tail_even colour call forms tail are =
    let lc : Option FullLc = Some call.link_control in
    let presence : List Bool = replicate (6 - length tail) true ++ tail in
    let letters : List Place = A ∷ B ∷ C ∷ D ∷ E ∷ F ∷ [] in
    all_drop IsEvenVoice (6 - length tail) (some_there colour lc call.pi letters (six_fields forms.own_fields) presence)
    (places_even colour lc call.pi letters (six_fields forms.own_fields) presence (six_even lc forms.own_fields are.own_fields))

call_even : (colour : ℕ) (call : Call) (forms : CallForms) (s : CallStart) → AreFormsOf call forms
    → AllByRecursion IsEvenVoice (slots_with colour call forms s)
call_even colour call forms (start.Headers h) are =
    subst (AllByRecursion IsEvenVoice) (sym (headed_is colour call forms h))
    (all_append IsEvenVoice (front_of call forms h) (voice_slots colour call forms)
    (data_even (front_of call forms h) (front_data call forms h)) (voice_even colour call forms are))
call_even colour call forms (start.Late tail) are =
    all_append IsEvenVoice (tail_slots colour call forms tail.items) (slots_sent colour (late_call call forms []))
    (tail_even colour call forms tail.items are)
    (subst (AllByRecursion IsEvenVoice) (sym (sent_late colour call forms)) (voice_even colour call forms are))

-- 3. All of them.

-- what is sent of a call
sent_call_even : (colour : ℕ) (call : Call) (sent : Transmitted) → SendsCall colour call sent
    → AllByRecursion IsEvenVoice sent.slots
sent_call_even colour call sent sends =
    subst (λ (x : Transmitted). AllByRecursion IsEvenVoice x.slots) (sym sends.is)
    (call_even colour call sends.forms call.shape.start sends.forms_are)

-- Each voice burst with an EMB that a transmission sends has an embedded field with even octets.
pub sent_even : (colour : ℕ) (last : Option PacketTry) (t : Said) (sent : Transmitted) → SendsSaid colour last t sent
    → AllByRecursion IsEvenVoice sent.slots
sent_even colour last (said.Call c) sent sends = sent_call_even colour c sent sends
sent_even colour last (said.Packet x) sent sends =
    data_even sent.slots (said_data colour last (said.Packet x) sent tt sends)
sent_even colour last (said.Again x) sent sends = data_even sent.slots (said_data colour last (said.Again x) sent tt sends)
sent_even colour last (said.ShortData x) sent sends =
    data_even sent.slots (said_data colour last (said.ShortData x) sent tt sends)
sent_even colour last (said.Status x) sent sends = data_even sent.slots (said_data colour last (said.Status x) sent tt sends)
sent_even colour last (said.Answer x) sent sends = data_even sent.slots (said_data colour last (said.Answer x) sent tt sends)
sent_even colour last (said.Control x) sent sends = data_even sent.slots (said_data colour last (said.Control x) sent tt sends)
sent_even colour last (said.Burst x) sent sends = data_even sent.slots (said_data colour last (said.Burst x) sent tt sends)

-- what holds of all of a list holds of what it contains
all_contain : {X : Type 0} (P : X → Type 0) (xs : List X) (x : X) (k : ℕ) → k < length xs → get_or xs k x ≡ x
    → AllByRecursion P xs → P x
all_contain P [] x k lt is p = absurd (omega (arith, lt))
all_contain P (y ∷ ys) x zero lt is p = subst P is p.0
all_contain P (y ∷ ys) x (suc k) lt is p = all_contain P ys x k (omega (arith, lt)) is p.1

-- No voice burst with an EMB of a call reads as a sync of a mobile station.
pub voice_bursts_are_far_from_syncs : (colour frame : ℕ) (call : Call) (sent : Transmitted) (emb : Emb) (embedded : ℕ)
    → (octets : List ℕ) → SendsCall colour call sent → Contains sent.slots (Voice emb embedded)
    → IsMade colour frame (Voice emb embedded) (Some octets) → HasNoMobileSync (bits_of_octets octets)
voice_bursts_are_far_from_syncs colour frame call sent emb embedded octets sends among made =
    let (k, within, is) = among in
    let even = all_contain IsEvenVoice sent.slots (Voice emb embedded) k within is (sent_call_even colour call sent sends) in
    far_from_syncs emb embedded (vocoder_of_frame frame) Ms (bits_of_octets octets) even made.encoding
