-- The slots of a transmission are seen as what is sent in them.
use Rattle.std.proofs.Common.{◌≡◌, ℕ, zero, suc, ◌-◌, ◌≤◌, Bool, true, false, List, [], ◌∷◌, ◌++◌, map, zip, drop, length}
use Rattle.std.proofs.Common.{replicate, flat_map}
use Rattle.std.proofs.Common.{arith, refl, ap, sym, subst, get_or, Option, Some, None, if◌then◌else◌}
use Rattle.std.specs.List.{AllZip, AllByRecursion}
use Rattle.dmr_bits.specs.Bits.{bits_of_octets}
use Rattle.dmr_burst.specs.DataTypes as data_type
use Rattle.dmr_hearing.specs.DataTypes.{payload_of}
use Rattle.dmr_hearing.specs.Damage.{IsSentSlot, Sends as SendsPayload}
use Rattle.dmr_hearing.specs.Slots.{SentSlot, Silent, Data, VoiceSync, Voice, ForeignVoice, ForeignData, CutOff}
use Rattle.dmr_link.specs.declared.full_lc.FullLc.{FullLc}
use Rattle.dmr_making.proofs.CallSlots.{sent_headed, sent_late}
use Rattle.dmr_making.specs.Calls.{CallForms, AreFormsOf, place_slot, superframe_slots, superframes_from, header_slot, voice_slots}
use Rattle.dmr_making.specs.Calls.{headed_call, late_call, started_call, slots_with, slots_sent, silences_behind, late_slots}
use Rattle.dmr_making.specs.Calls.{tail_slots}
use Rattle.dmr_making.specs.Calls.{places_with, six_fields}
use Rattle.dmr_making.specs.Fit.{IsFitStart}
use Rattle.dmr_making.specs.Seen.{IsSeenAs, AreSeenAs}
use Rattle.dmr_script.specs.declared.call.Call.{Call}
use Rattle.dmr_script.specs.declared.shape.CallStart.{CallStart}
use Rattle.dmr_script.specs.declared.shape.CallStart.TheVariants as start
use Rattle.dmr_script.specs.declared.shape.HeaderKind.{HeaderKind}
use Rattle.dmr_script.specs.declared.shape.HeaderKind.TheVariants as header
use Rattle.dmr_script.specs.declared.shape.Headers.{Headers}
use Rattle.dmr_voice.specs.CallMeaning.{Present, Superframe}
use Rattle.dmr_voice.specs.Places.{lcss}
use Rattle.dmr_voice.specs.declared.place.Place.{Place}
use Rattle.dmr_voice.specs.declared.place.Place.TheVariants.{A, B, C, D, E, F}

-- 1. Lists.

-- What holds of all of two lists holds of all of both.
pub all_append : {X : Type 0} (P : X → Type 0) (xs ys : List X) → AllByRecursion P xs → AllByRecursion P ys
    → AllByRecursion P (xs ++ ys)
all_append P [] ys p q = q
all_append P (x ∷ xs) ys p q = (p.0, all_append P xs ys p.1 q)

pub all_map : {A B : Type 0} (P : B → Type 0) (f : A → B) (xs : List A) → ((x : A) → P (f x)) → AllByRecursion P (map f xs)
all_map P f [] h = tt
all_map P f (x ∷ xs) h = (h x, all_map P f xs h)

pub all_same : {X : Type 0} (P : X → Type 0) (n : ℕ) (x : X) → P x → AllByRecursion P (replicate n x)
all_same P zero x h = tt
all_same P (suc n) x h = (h, all_same P n x h)

pub all_flat : {A B : Type 0} (P : B → Type 0) (f : A → List B) (xs : List A) → ((x : A) → AllByRecursion P (f x))
    → AllByRecursion P (flat_map f xs)
all_flat P f [] h = tt
all_flat P f (x ∷ xs) h = all_append P (f x) (flat_map f xs) (h x) (all_flat P f xs h)

pub zip_append : {A B : Type 0} (R : A → B → Type 0) (xs : List A) (ys : List B) (us : List A) (vs : List B) → AllZip R xs ys
    → AllZip R us vs → AllZip R (xs ++ us) (ys ++ vs)
zip_append R [] [] us vs p q = q
zip_append R [] (y ∷ ys) us vs p q = absurd p
zip_append R (x ∷ xs) [] us vs p q = absurd p
zip_append R (x ∷ xs) (y ∷ ys) us vs p q = (p.0, zip_append R xs ys us vs p.1 q)

-- 2. Slots that say all that is sent.

-- the slot may be sent, and says all of it
abbrev pub IsPlain : ℕ → SentSlot → Type 0
IsPlain colour Silent = Unit {0}
IsPlain colour (Data kind information lc) = SendsPayload (payload_of kind) information lc
IsPlain colour VoiceSync = Unit {0}
IsPlain colour (Voice emb embedded) = emb.colour ≡ colour
IsPlain colour (ForeignVoice emb) = ⊥
IsPlain colour ForeignData = ⊥
IsPlain colour CutOff = ⊥

plain_seen : (colour : ℕ) (slot : SentSlot) → IsPlain colour slot → IsSeenAs slot slot
plain_seen colour Silent p = refl
plain_seen colour (Data kind information lc) p = refl
plain_seen colour VoiceSync p = refl
plain_seen colour (Voice emb embedded) p = refl
plain_seen colour (ForeignVoice emb) p = absurd p
plain_seen colour ForeignData p = absurd p
plain_seen colour CutOff p = absurd p

plain_sent : (colour : ℕ) (slot : SentSlot) → IsPlain colour slot → IsSentSlot colour slot
plain_sent colour Silent p = tt
plain_sent colour (Data kind information lc) p = p
plain_sent colour VoiceSync p = tt
plain_sent colour (Voice emb embedded) p = p
plain_sent colour (ForeignVoice emb) p = absurd p
plain_sent colour ForeignData p = absurd p
plain_sent colour CutOff p = absurd p

-- Plain slots are seen as they are.
pub all_seen : (colour : ℕ) (slots : List SentSlot) → AllByRecursion (IsPlain colour) slots → AllZip IsSeenAs slots slots
all_seen colour [] p = tt
all_seen colour (s ∷ slots) p = (plain_seen colour s p.0, all_seen colour slots p.1)

-- Plain slots can be sent.
pub all_sent : (colour : ℕ) (slots : List SentSlot) → AllByRecursion (IsPlain colour) slots
    → AllByRecursion (IsSentSlot colour) slots
all_sent colour [] p = tt
all_sent colour (s ∷ slots) p = (plain_sent colour s p.0, all_sent colour slots p.1)

-- 3. Calls.

-- the place is behind A
abbrev IsBehindA : Place → Type 0
IsBehindA A = ⊥
IsBehindA B = Unit {0}
IsBehindA C = Unit {0}
IsBehindA D = Unit {0}
IsBehindA E = Unit {0}
IsBehindA F = Unit {0}

-- what a transmission says in front of the first A of a late call
sent_tail : (colour : ℕ) (call : Call) (forms : CallForms) (tail : List Bool)
    → slots_sent colour (late_call call forms tail)
    ≡ map (λ (there : Bool). if there then CutOff else Silent) tail ++ slots_sent colour (late_call call forms [])
sent_tail colour call forms [] = refl
sent_tail colour call forms (b ∷ tail) =
    ap (λ (l : List SentSlot). (if b then CutOff else Silent) ∷ l) (sent_tail colour call forms tail)

-- a place of a superframe
place_plain : (colour : ℕ) (carries : Option FullLc) (place : Place) (y : Option Present)
    → IsPlain colour (place_slot colour carries place y)
place_plain colour carries A None = tt
place_plain colour carries B None = tt
place_plain colour carries C None = tt
place_plain colour carries D None = tt
place_plain colour carries E None = tt
place_plain colour carries F None = tt
place_plain colour carries A (Some y) = tt
place_plain colour carries B (Some y) = refl
place_plain colour carries C (Some y) = refl
place_plain colour carries D (Some y) = refl
place_plain colour carries E (Some y) = refl
place_plain colour carries F (Some y) = refl

superframe_plain : (colour : ℕ) (s : Superframe) → AllByRecursion (IsPlain colour) (superframe_slots colour s)
superframe_plain colour s =
    all_map (IsPlain colour) (λ (p : Place × Option Present). place_slot colour s.carries p.0 p.1)
    (zip (A ∷ B ∷ C ∷ D ∷ E ∷ F ∷ []) s.places) (λ p. place_plain colour s.carries p.0 p.1)

header_plain : (colour : ℕ) (call : Call) (forms : CallForms) (kind : HeaderKind) → AreFormsOf call forms
    → IsPlain colour (header_slot call forms kind)
header_plain colour call forms header.Voice p = (call.link_control, p.header.message, p.header.sealed, p.header.written, refl)
header_plain colour call forms header.Privacy p = (bits_of_octets p.pi_header.octets, p.pi_header.written, refl)

voice_plain : (colour : ℕ) (call : Call) (forms : CallForms) → AreFormsOf call forms
    → AllByRecursion (IsPlain colour) (voice_slots colour call forms)
voice_plain colour call forms p =
    let superframes = superframes_from call forms.fields 0 call.shape.places.items in
    let last : SentSlot = Data data_type.terminator_with_lc forms.terminator (Some call.link_control) in
    all_append (IsPlain colour) (flat_map (superframe_slots colour) superframes) (replicate call.shape.terminators last)
    (all_flat (IsPlain colour) (superframe_slots colour) superframes (superframe_plain colour))
    (all_same (IsPlain colour) call.shape.terminators last
    (call.link_control, p.terminator.message, p.terminator.sealed, p.terminator.written, refl))

pub headed_plain : (colour : ℕ) (call : Call) (forms : CallForms) (h : Headers) → AreFormsOf call forms
    → AllByRecursion (IsPlain colour) (slots_sent colour (headed_call call forms h call.shape.places.items))
headed_plain colour call forms h p =
    let gap : ℕ = silences_behind call.shape.places.items h in
    subst (AllByRecursion (IsPlain colour)) (sym (sent_headed colour call forms h call.shape.places.items refl)) (
      header_plain colour call forms header.Voice p,
      all_append (IsPlain colour) (map (header_slot call forms) h.more.items) (replicate gap Silent ++ voice_slots colour call
          forms)
          (all_map (IsPlain colour) (header_slot call forms) h.more.items (λ kind. header_plain colour call forms kind p))
          (all_append (IsPlain colour) (replicate gap Silent) (voice_slots colour call forms) (all_same (IsPlain colour) gap
          Silent tt)
          (voice_plain colour call forms p)),
    )

-- a place in front of the first A, and that a burst is there
cut_seen : (colour : ℕ) (carries : Option FullLc) (place : Place) (pi there : Bool) (field : ℕ) → IsBehindA place
    → IsSeenAs (if there then CutOff else Silent)
    (place_slot colour carries place (if there then Some (record { pi = pi; embedded = field }) else None))
cut_seen colour carries A pi there field behind = absurd behind
cut_seen colour carries B pi true field behind = (record { colour = colour; pi = pi; lcss = lcss B carries }, field, refl)
cut_seen colour carries C pi true field behind = (record { colour = colour; pi = pi; lcss = lcss C carries }, field, refl)
cut_seen colour carries D pi true field behind = (record { colour = colour; pi = pi; lcss = lcss D carries }, field, refl)
cut_seen colour carries E pi true field behind = (record { colour = colour; pi = pi; lcss = lcss E carries }, field, refl)
cut_seen colour carries F pi true field behind = (record { colour = colour; pi = pi; lcss = lcss F carries }, field, refl)
cut_seen colour carries B pi false field behind = refl
cut_seen colour carries C pi false field behind = refl
cut_seen colour carries D pi false field behind = refl
cut_seen colour carries E pi false field behind = refl
cut_seen colour carries F pi false field behind = refl

-- what a transmission says of places in front of the first A
abbrev cut_slots : List Bool → List SentSlot
cut_slots tail = map (λ (there : Bool). if there then CutOff else Silent) tail

tail_seen : (colour : ℕ) (call : Call) (forms : CallForms) (tail : List Bool) → length tail ≤ 5
    → AllZip IsSeenAs (cut_slots tail) (tail_slots colour call forms tail)
tail_seen colour call forms [] le = tt
tail_seen colour call forms (f ∷ []) le = (cut_seen colour (Some call.link_control) F call.pi f 0 tt, tt)
tail_seen colour call forms (e ∷ f ∷ []) le =
    let lc : Option FullLc = Some call.link_control in
    let own : List ℕ = forms.own_fields in
    (cut_seen colour lc E call.pi e (get_or own 3 0) tt, (cut_seen colour lc F call.pi f 0 tt, tt))
tail_seen colour call forms (d ∷ e ∷ f ∷ []) le =
    let lc : Option FullLc = Some call.link_control in
    let own : List ℕ = forms.own_fields in (
      cut_seen colour lc D call.pi d (get_or own 2 0) tt,
      (cut_seen colour lc E call.pi e (get_or own 3 0) tt, (cut_seen colour lc F call.pi f 0 tt, tt)),
    )
tail_seen colour call forms (c ∷ d ∷ e ∷ f ∷ []) le =
    let lc : Option FullLc = Some call.link_control in
    let own : List ℕ = forms.own_fields in (
      cut_seen colour lc C call.pi c (get_or own 1 0) tt,
      (
        cut_seen colour lc D call.pi d (get_or own 2 0) tt,
        (cut_seen colour lc E call.pi e (get_or own 3 0) tt, (cut_seen colour lc F call.pi f 0 tt, tt)),
      ),
    )
tail_seen colour call forms (b ∷ c ∷ d ∷ e ∷ f ∷ []) le =
    let lc : Option FullLc = Some call.link_control in
    let own : List ℕ = forms.own_fields in (
      cut_seen colour lc B call.pi b (get_or own 0 0) tt,
      (
        cut_seen colour lc C call.pi c (get_or own 1 0) tt,
        (
          cut_seen colour lc D call.pi d (get_or own 2 0) tt,
          (cut_seen colour lc E call.pi e (get_or own 3 0) tt, (cut_seen colour lc F call.pi f 0 tt, tt)),
        ),
      ),
    )
tail_seen colour call forms (a ∷ b ∷ c ∷ d ∷ e ∷ f ∷ more) le = absurd (omega arith)

-- What holds of all of a list holds behind some of its first.
pub all_drop : {X : Type 0} (P : X → Type 0) (n : ℕ) (xs : List X) → AllByRecursion P xs → AllByRecursion P (drop n xs)
all_drop P zero xs p = p
all_drop P (suc n) [] p = tt
all_drop P (suc n) (x ∷ xs) p = all_drop P n xs p.1

tail_plain : (colour : ℕ) (call : Call) (forms : CallForms) (tail : List Bool)
    → AllByRecursion (IsPlain colour) (tail_slots colour call forms tail)
tail_plain colour call forms tail =
    let cut : Superframe = record {
      carries = Some call.link_control;
      places = places_with call.pi (six_fields forms.own_fields) (replicate (6 - length tail) true ++ tail);
    } in
    all_drop (IsPlain colour) (6 - length tail) (superframe_slots colour cut) (superframe_plain colour cut)

-- a late call, with what is sent in front of its first A
pub late_seen : (colour : ℕ) (call : Call) (forms : CallForms) (tail : List Bool) → AreFormsOf call forms → length tail ≤ 5
    → AreSeenAs colour (record { transmission = late_call call forms tail; slots = late_slots colour call forms tail })
late_seen colour call forms tail p le =
    let rest : List SentSlot = slots_sent colour (late_call call forms []) in
    let plain : AllByRecursion (IsPlain colour) rest =
    subst (AllByRecursion (IsPlain colour)) (sym (sent_late colour call forms)) (voice_plain colour call forms p) in
    let said : slots_sent colour (late_call call forms tail) ≡ cut_slots tail ++ rest = sent_tail colour call forms tail in
    record {
      seen = subst (λ (l : List SentSlot). AllZip IsSeenAs l (late_slots colour call forms tail)) (sym said)
          (zip_append IsSeenAs (cut_slots tail) (tail_slots colour call forms tail) rest rest
          (tail_seen colour call forms tail le) (all_seen colour rest plain));
      may_be_sent = all_sent colour (late_slots colour call forms tail)
          (all_append (IsPlain colour) (tail_slots colour call forms tail) rest (tail_plain colour call forms tail) plain);
    }

pub headed_seen : (colour : ℕ) (call : Call) (forms : CallForms) (h : Headers) → AreFormsOf call forms
    → AreSeenAs colour (record {
      transmission = headed_call call forms h call.shape.places.items;
      slots = slots_sent colour (headed_call call forms h call.shape.places.items);
    })
headed_seen colour call forms h p =
    let slots : List SentSlot = slots_sent colour (headed_call call forms h call.shape.places.items) in
    let plain = headed_plain colour call forms h p in
    record { seen = all_seen colour slots plain; may_be_sent = all_sent colour slots plain }

-- any call
pub call_seen : (colour : ℕ) (call : Call) (forms : CallForms) (s : CallStart) → AreFormsOf call forms → IsFitStart s
    → AreSeenAs colour (record { transmission = started_call call forms s; slots = slots_with colour call forms s })
call_seen colour call forms (start.Headers h) p fit = headed_seen colour call forms h p
call_seen colour call forms (start.Late tail) p fit = late_seen colour call forms tail.items p fit
