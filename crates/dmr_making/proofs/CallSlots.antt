-- What the slots of a call send, part by part.
use Rattle.std.proofs.Common.{◌≡◌, ℕ, zero, suc, ◌+◌, ◌-◌, ◌/◌, ◌%◌, ◌<◌, ◌≤◌, ◌++◌, Bool, true, false, List, [], ◌∷◌, map}
use Rattle.std.proofs.Common.{zip, length}
use Rattle.std.proofs.Common.{arith, refl, ap, sym, ◌∙◌, subst, Option, Some, None, get_or, flat_map, replicate, drop, slice_get}
use Rattle.std.proofs.Common.{if◌then◌else◌}
use Rattle.std.proofs.lemmas.Option.{slice_get_within, get_or_from_slice_get}
use Rattle.std.proofs.lemmas.List.{length-map, map-append, length-replicate, get_or-append-add}
use Rattle.dmr_burst.specs.DataTypes.{terminator_with_lc}
use Rattle.dmr_burst.specs.declared.burst.Burst.TheVariants as burst
use Rattle.dmr_hearing.proofs.OneLinkControl.{one_carrier}
use Rattle.dmr_hearing.specs.Slots.{SentSlot, Silent, Data}
use Rattle.dmr_link.specs.declared.full_lc.FullLc.{FullLc}
use Rattle.dmr_making.proofs.Standing.{at_left, at_seam, at_right, at_replicate, at_drop, at_map, at_read}
use Rattle.dmr_making.proofs.Superframes.{place_at, voice_at, length_voice, index_is, place_index, IsFullAt}
use Rattle.dmr_making.specs.Calls.{AreFieldsOf, CallForms, superframe_slots, superframes_from, voice_slots}
use Rattle.dmr_making.specs.Calls.{headed_slots}
use Rattle.dmr_making.specs.Calls.{tail_slots, late_slots, header_slot, silences_behind, lead_of, call_ending, headed_call}
use Rattle.dmr_making.specs.Calls.{late_call, slots_sent}
use Rattle.dmr_making.specs.Calls.{six_fields, places_with}
use Rattle.dmr_making.specs.Made.{IsMade, IsMobileBurst, vocoder_of_frame}
use Rattle.dmr_making.specs.Places.{full_slots, lcss_with}
use Rattle.dmr_making.specs.Standing.{HoldsAt}
use Rattle.dmr_script.specs.declared.call.Call.{Call}
use Rattle.dmr_script.specs.declared.shape.HeaderKind.{HeaderKind}
use Rattle.dmr_script.specs.declared.shape.HeaderKind.TheVariants as header
use Rattle.dmr_script.specs.declared.shape.Headers.{Headers}
use Rattle.dmr_voice.specs.CallMeaning.{Cell, Superframe, superframe_cells, ending_cells, lead_cell}
use Rattle.dmr_voice.specs.CallMeaning.{header_cell}
use Rattle.dmr_voice.specs.CallMeaning.{Present, is_complete, place_cell, data_cell}
use Rattle.dmr_voice.specs.Places.{option_or, voice_of, lcss}
use Rattle.dmr_voice.specs.declared.place.Place.{Place}
use Rattle.dmr_voice.specs.declared.place.Place.TheVariants.{A, B, C, D, E, F}
use Rattle.dmr_voice.specs.declared.said.Role.TheVariants as role

-- 1. Fields.

-- what a superframe carries has one list of fields
pub one_fields : (carried : Option FullLc) (a b : List ℕ) → AreFieldsOf carried a → AreFieldsOf carried b → a ≡ b
one_fields None a b p q = p ∙ sym q
one_fields (Some lc) a b p q = one_carrier lc a b p q

-- 2. What transmissions send.

-- a map of a map
pub map_twice : {X Y Z : Type 0} (g : Y → Z) (f : X → Y) (xs : List X) → map g (map f xs) ≡ map (λ x. g (f x)) xs
map_twice g f [] = refl
map_twice g f (x ∷ xs) = ap (λ (l : List _). g (f x) ∷ l) (map_twice g f xs)

-- a map of equals
map_same : {X Y : Type 0} (f : X → Y) (n : ℕ) (x : X) → map f (replicate n x) ≡ replicate n (f x)
map_same f zero x = refl
map_same f (suc n) x = ap (λ (l : List _). f x ∷ l) (map_same f n x)

-- two lists that are put behind others
pub both : {X : Type 0} (a b c d : List X) → a ≡ c → b ≡ d → a ++ b ≡ c ++ d
both a b c d p q = ap (λ (x : List _). x ++ b) p ∙ ap (λ (x : List _). c ++ x) q

-- what cells send
abbrev sent : List Cell → List SentSlot
sent cs = map (λ c. c.sent) cs

-- the cells of superframes send what superframes do, whatever call they are of
sent_superframes : (colour : ℕ) (call : Option FullLc) (ss : List Superframe)
    → sent (superframe_cells colour call ss) ≡ flat_map (superframe_slots colour) ss
sent_superframes colour call [] = refl
sent_superframes colour call (s ∷ ss) =
    let own : Option FullLc = if is_complete 4 (drop 1 s.places) then s.carries else None in
    let known : Option FullLc = option_or call (voice_of own) in
    let letters : List (Place × Option Present) = zip (A ∷ B ∷ C ∷ D ∷ E ∷ F ∷ []) s.places in
    let cell : Place × Option Present → Cell = λ p. place_cell colour p.0 s.carries (option_or own known) (role.Call known) p.1 in
    map-append (λ (c : Cell). c.sent) (map cell letters) (superframe_cells colour known ss)
    ∙ both (sent (map cell letters)) (sent (superframe_cells colour known ss)) (superframe_slots colour s)
    (flat_map (superframe_slots colour) ss)
    (map_twice (λ (c : Cell). c.sent) cell letters) (sent_superframes colour known ss)

-- headers behind the first
sent_leads : (call : Call) (forms : CallForms) (kinds : List HeaderKind)
    → sent (map (lead_cell call.link_control forms.header) (map (lead_of forms) kinds)) ≡ map (header_slot call forms) kinds
sent_leads call forms [] = refl
sent_leads call forms (header.Voice ∷ kinds) =
    ap (λ (l : List SentSlot). header_slot call forms header.Voice ∷ l) (sent_leads call forms kinds)
sent_leads call forms (header.Privacy ∷ kinds) =
    ap (λ (l : List SentSlot). header_slot call forms header.Privacy ∷ l) (sent_leads call forms kinds)

-- terminators
sent_ending : (call : Call) (forms : CallForms) (n : ℕ)
    → sent (ending_cells call.link_control (call_ending forms n))
    ≡ replicate n (Data terminator_with_lc forms.terminator (Some call.link_control))
sent_ending call forms zero = refl
sent_ending call forms (suc n) =
    map_same (λ (c : Cell). c.sent) (suc n) (data_cell terminator_with_lc forms.terminator (Some call.link_control)
    (role.Call (Some call.link_control)))

-- the voice of a call, and what ends it
sent_voice : (colour : ℕ) (call : Call) (forms : CallForms) (known : Option FullLc)
    → sent (superframe_cells colour known (superframes_from call forms.fields 0 call.shape.places.items)
    ++ ending_cells call.link_control (call_ending forms call.shape.terminators))
    ≡ voice_slots colour call forms
sent_voice colour call forms known =
    let ss : List Superframe = superframes_from call forms.fields 0 call.shape.places.items in
    let ends : List Cell = ending_cells call.link_control (call_ending forms call.shape.terminators) in
    map-append (λ (c : Cell). c.sent) (superframe_cells colour known ss) ends
    ∙ both (sent (superframe_cells colour known ss)) (sent ends) (flat_map (superframe_slots colour) ss)
    (replicate call.shape.terminators (Data terminator_with_lc forms.terminator (Some call.link_control)))
    (sent_superframes colour known ss) (sent_ending call forms call.shape.terminators)

-- 3. What stands in a place.

-- the burst of a place that carries a fragment
fragment_at : (colour frame : ℕ) (pi : Bool) (carried : Option FullLc) (field fragment : ℕ) (octets : List ℕ)
    → (place : Place) → (lcss place carried ≡ lcss_with carried fragment)
    → IsMobileBurst (burst.Voice (record { colour = colour; pi = pi; lcss = lcss_with carried fragment }) field (vocoder_of_frame
    frame))
    octets
    → IsMobileBurst (burst.Voice (record { colour = colour; pi = pi; lcss = lcss place carried }) field (vocoder_of_frame frame))
    octets
fragment_at colour frame pi carried field fragment octets place e b =
    subst (λ (k : ℕ). IsMobileBurst (burst.Voice (record { colour = colour; pi = pi; lcss = k }) field (vocoder_of_frame frame))
    octets)
    (sym e) b

-- the LCSS of a place is its fragment, where there is a link control
fragment_of_B : (carried : Option FullLc) → lcss B carried ≡ lcss_with carried 1
fragment_of_B None = refl
fragment_of_B (Some lc) = refl

fragment_of_C : (carried : Option FullLc) → lcss C carried ≡ lcss_with carried 3
fragment_of_C None = refl
fragment_of_C (Some lc) = refl

fragment_of_D : (carried : Option FullLc) → lcss D carried ≡ lcss_with carried 3
fragment_of_D None = refl
fragment_of_D (Some lc) = refl

fragment_of_E : (carried : Option FullLc) → lcss E carried ≡ lcss_with carried 2
fragment_of_E None = refl
fragment_of_E (Some lc) = refl

fragment_of_F : (carried : Option FullLc) → lcss F carried ≡ 0
fragment_of_F None = refl
fragment_of_F (Some lc) = refl

-- So the burst of each place is what a superframe sends there, where all of it is there.
pub full_B : (colour frame : ℕ) (pi : Bool) (carried : Option FullLc) (fields octets : List ℕ)
    → IsMobileBurst (burst.Voice (record { colour = colour; pi = pi; lcss = lcss_with carried 1 }) (get_or fields 0 0)
    (vocoder_of_frame frame)) octets
    → HoldsAt (λ (slot : SentSlot). IsMade colour frame slot (Some octets)) (full_slots colour pi carried fields) 1
full_B colour frame pi carried fields octets b =
    fragment_at colour frame pi carried (get_or fields 0 0) 1 octets B (fragment_of_B carried) b

-- Burst C of a superframe is made.
pub full_C : (colour frame : ℕ) (pi : Bool) (carried : Option FullLc) (fields octets : List ℕ)
    → IsMobileBurst (burst.Voice (record { colour = colour; pi = pi; lcss = lcss_with carried 3 }) (get_or fields 1 0)
    (vocoder_of_frame frame)) octets
    → HoldsAt (λ (slot : SentSlot). IsMade colour frame slot (Some octets)) (full_slots colour pi carried fields) 2
full_C colour frame pi carried fields octets b =
    fragment_at colour frame pi carried (get_or fields 1 0) 3 octets C (fragment_of_C carried) b

-- Burst D of a superframe is made.
pub full_D : (colour frame : ℕ) (pi : Bool) (carried : Option FullLc) (fields octets : List ℕ)
    → IsMobileBurst (burst.Voice (record { colour = colour; pi = pi; lcss = lcss_with carried 3 }) (get_or fields 2 0)
    (vocoder_of_frame frame)) octets
    → HoldsAt (λ (slot : SentSlot). IsMade colour frame slot (Some octets)) (full_slots colour pi carried fields) 3
full_D colour frame pi carried fields octets b =
    fragment_at colour frame pi carried (get_or fields 2 0) 3 octets D (fragment_of_D carried) b

-- Burst E of a superframe is made.
pub full_E : (colour frame : ℕ) (pi : Bool) (carried : Option FullLc) (fields octets : List ℕ)
    → IsMobileBurst (burst.Voice (record { colour = colour; pi = pi; lcss = lcss_with carried 2 }) (get_or fields 3 0)
    (vocoder_of_frame frame)) octets
    → HoldsAt (λ (slot : SentSlot). IsMade colour frame slot (Some octets)) (full_slots colour pi carried fields) 4
full_E colour frame pi carried fields octets b =
    fragment_at colour frame pi carried (get_or fields 3 0) 2 octets E (fragment_of_E carried) b

-- Burst F of a superframe is made.
pub full_F : (colour frame : ℕ) (pi : Bool) (carried : Option FullLc) (fields octets : List ℕ)
    → IsMobileBurst (burst.Voice (record { colour = colour; pi = pi; lcss = 0 }) 0 (vocoder_of_frame frame)) octets
    → HoldsAt (λ (slot : SentSlot). IsMade colour frame slot (Some octets)) (full_slots colour pi carried fields) 5
full_F colour frame pi carried fields octets b =
    subst (λ (k : ℕ). IsMobileBurst (burst.Voice (record { colour = colour; pi = pi; lcss = k }) 0 (vocoder_of_frame frame)) octets)
    (sym (fragment_of_F carried)) b

-- A place of the voice: its burst where it is there, and nothing where it is absent.
pub voice_slot_at : (P : SentSlot → Type 0) (colour : ℕ) (call : Call) (forms : CallForms) (place : ℕ)
    → place < length call.shape.places.items
    → (get_or call.shape.places.items place true ≡ true → IsFullAt P colour call forms.fields (place / 6) (place % 6))
    → (get_or call.shape.places.items place true ≡ false → P Silent)
    → HoldsAt P (voice_slots colour call forms) place
voice_slot_at P colour call forms place inside here silent =
    let bs : List Bool = call.shape.places.items in
    let voice : List SentSlot = flat_map (superframe_slots colour) (superframes_from call forms.fields 0 bs) in
    let ends = replicate call.shape.terminators (Data terminator_with_lc forms.terminator (Some call.link_control)) in
    let long : length voice ≡ length bs = length_voice colour call forms.fields 0 bs in
    let small : place % 6 < 6 = omega arith in
    let index : place_index (place / 6) (place % 6) ≡ place = index_is (place / 6) (place % 6) ∙ omega arith in
    let none : place / 6 ≡ place / 6 + 0 = omega arith in
    let there : HoldsAt P voice (place_index (place / 6) (place % 6)) =
    voice_at P colour call forms.fields 0 bs (place / 6) (place / 6) (place % 6) small none
    (λ q. here (ap (λ (k : ℕ). get_or bs k true) (sym index) ∙ q))
    (λ q. silent (ap (λ (k : ℕ). get_or bs k true) (sym index) ∙ q)) in
    at_left P voice ends place (omega (arith, long, inside)) (subst (HoldsAt P voice) index there)

-- behind the voice a terminator
pub terminator_at : (P : SentSlot → Type 0) (colour : ℕ) (call : Call) (forms : CallForms) (place : ℕ)
    → length call.shape.places.items ≤ place → P (Data terminator_with_lc forms.terminator (Some call.link_control))
    → HoldsAt P (voice_slots colour call forms) place
terminator_at P colour call forms place past h =
    let voice : List SentSlot =
    flat_map (superframe_slots colour) (superframes_from call forms.fields 0 call.shape.places.items) in
    let last : SentSlot = Data terminator_with_lc forms.terminator (Some call.link_control) in
    let long : length voice ≡ length call.shape.places.items = length_voice colour call forms.fields 0 call.shape.places.items in
    at_seam P voice (replicate call.shape.terminators last) place (λ lt. absurd (omega (arith, long, past, lt)))
    (λ j e. at_replicate P call.shape.terminators last j h)

-- in front of the first A of a late call
pub tail_at : (P : SentSlot → Type 0) (colour : ℕ) (call : Call) (forms : CallForms) (tail : List Bool) (place at : ℕ)
    → at ≡ 6 - length tail + place → place < length tail
    → (get_or tail place true ≡ true → HoldsAt P (full_slots colour call.pi (Some call.link_control) forms.own_fields) at)
    → (get_or tail place true ≡ false → P Silent)
    → HoldsAt P (tail_slots colour call forms tail) place
tail_at P colour call forms tail place at e inside here silent =
    let front : ℕ = 6 - length tail in
    let presence : List Bool = replicate front true ++ tail in
    let same : get_or presence at true ≡ get_or tail place true =
    ap (λ (k : ℕ). get_or presence k true) (e ∙ ap (λ (k : ℕ). k + place) (sym (length-replicate front true)))
    ∙ get_or-append-add (replicate front true) tail place true in
    at_drop P front (superframe_slots colour (record {
      carries = Some call.link_control;
      places = places_with call.pi (six_fields forms.own_fields) presence;
    })) at place e
    (place_at P colour (Some call.link_control) call.pi (A ∷ B ∷ C ∷ D ∷ E ∷ F ∷ []) (six_fields forms.own_fields) presence at
    (λ q. here (sym same ∙ q)) (λ q. silent (sym same ∙ q)))

-- 4. Whole calls.

-- what a call with its headers sends
pub sent_headed : (colour : ℕ) (call : Call) (forms : CallForms) (h : Headers) (bs : List Bool) → bs ≡ call.shape.places.items
    → slots_sent colour (headed_call call forms h bs)
    ≡ header_slot call forms header.Voice ∷ (map (header_slot call forms) h.more.items
    ++ (replicate (silences_behind bs h) Silent ++ voice_slots colour call forms))
sent_headed colour call forms h [] e =
    let lc : FullLc = call.link_control in
    let leads : List Cell = map (lead_cell lc forms.header) (map (lead_of forms) h.more.items) in
    let ends : List Cell = ending_cells lc (call_ending forms call.shape.terminators) in
    let last : SentSlot = Data terminator_with_lc forms.terminator (Some lc) in
    let none : flat_map (superframe_slots colour) (superframes_from call forms.fields 0 call.shape.places.items) ≡ [] =
    ap (λ (l : List Bool). flat_map (superframe_slots colour) (superframes_from call forms.fields 0 l)) (sym e) in
    ap (λ (l : List SentSlot). header_slot call forms header.Voice ∷ l)
    (map-append (λ (c : Cell). c.sent) leads ends
    ∙ both (sent leads) (sent ends) (map (header_slot call forms) h.more.items) (voice_slots colour call forms)
    (sent_leads call forms h.more.items)
    (sent_ending call forms call.shape.terminators
    ∙ ap (λ (l : List SentSlot). l ++ replicate call.shape.terminators last) (sym none)))
sent_headed colour call forms h (b ∷ bs) e =
    let lc : FullLc = call.link_control in
    let leads : List Cell = map (lead_cell lc forms.header) (map (lead_of forms) h.more.items) in
    let gap : List Cell = replicate h.silences (record (header_cell lc forms.header) { sent = Silent }) in
    let voice : List Cell = superframe_cells colour (Some lc) (superframes_from call forms.fields 0 (b ∷ bs))
    ++ ending_cells lc (call_ending forms call.shape.terminators) in
    let same : sent voice ≡ voice_slots colour call forms =
    ap (λ (l : List Bool). sent (superframe_cells colour (Some lc) (superframes_from call forms.fields 0 l)
    ++ ending_cells lc (call_ending forms call.shape.terminators))) e
    ∙ sent_voice colour call forms (Some lc) in
    ap (λ (l : List SentSlot). header_slot call forms header.Voice ∷ l)
    (map-append (λ (c : Cell). c.sent) leads (gap ++ voice)
    ∙ both (sent leads) (sent (gap ++ voice)) (map (header_slot call forms) h.more.items)
    (replicate h.silences Silent ++ voice_slots colour call forms) (sent_leads call forms h.more.items)
    (map-append (λ (c : Cell). c.sent) gap voice
    ∙ both (sent gap) (sent voice) (replicate h.silences Silent) (voice_slots colour call forms)
    (map_same (λ (c : Cell). c.sent) h.silences (record (header_cell lc forms.header) { sent = Silent })) same))

-- what the rest of a call sends from its first A on
pub sent_late : (colour : ℕ) (call : Call) (forms : CallForms)
    → slots_sent colour (late_call call forms []) ≡ voice_slots colour call forms
sent_late colour call forms = sent_voice colour call forms None

-- the first header
pub headed_first : (P : SentSlot → Type 0) (colour : ℕ) (call : Call) (forms : CallForms) (h : Headers) (place : ℕ) → place ≡ 0
    → P (header_slot call forms header.Voice) → HoldsAt P (headed_slots colour call forms h) place
headed_first P colour call forms h place e first =
    subst (λ (k : ℕ). HoldsAt P (headed_slots colour call forms h) k) (sym e) first

-- a header behind it
pub headed_more : (P : SentSlot → Type 0) (colour : ℕ) (call : Call) (forms : CallForms) (h : Headers) (place : ℕ)
    → (kind : HeaderKind) → (place ≡ 0 → ⊥) → slice_get h.more.items (place - 1) ≡ Some kind
    → P (header_slot call forms kind) → HoldsAt P (headed_slots colour call forms h) place
headed_more P colour call forms h zero kind some e here = absurd (some refl)
headed_more P colour call forms h (suc k) kind some e here =
    let less : suc k - 1 ≡ k = omega arith in
    let at : slice_get h.more.items k ≡ Some kind = ap (λ (i : ℕ). slice_get h.more.items i) (sym less) ∙ e in
    let inside : k < length h.more.items = slice_get_within h.more.items k kind at in
    let long : length (map (header_slot call forms) h.more.items) ≡ length h.more.items =
    length-map h.more.items (header_slot call forms) in
    at_left P (map (header_slot call forms) h.more.items)
    (replicate (silences_behind call.shape.places.items h) Silent ++ voice_slots colour call forms) k
    (omega (arith, inside, long))
    (at_map P (header_slot call forms) h.more.items k
    (at_read (λ (x : HeaderKind). P (header_slot call forms x)) h.more.items k kind
    (subst (λ (x : HeaderKind). P (header_slot call forms x)) (sym (get_or_from_slice_get h.more.items k kind kind at)) here)))

-- silences behind the headers
pub headed_gap : (P : SentSlot → Type 0) (colour : ℕ) (call : Call) (forms : CallForms) (h : Headers) (place : ℕ)
    → (place ≡ 0 → ⊥) → length h.more.items ≤ place - 1
    → place - 1 - length h.more.items < silences_behind call.shape.places.items h
    → P Silent → HoldsAt P (headed_slots colour call forms h) place
headed_gap P colour call forms h zero some past short silent = absurd (some refl)
headed_gap P colour call forms h (suc k) some past short silent =
    let heads : List SentSlot = map (header_slot call forms) h.more.items in
    let gap : List SentSlot = replicate (silences_behind call.shape.places.items h) Silent in
    let j : ℕ = suc k - 1 - length h.more.items in
    let long : length heads ≡ length h.more.items = length-map h.more.items (header_slot call forms) in
    let count : length gap ≡ silences_behind call.shape.places.items h =
    length-replicate (silences_behind call.shape.places.items h) Silent in
    at_right P heads (gap ++ voice_slots colour call forms) j k (omega (arith, long, past))
    (at_left P gap (voice_slots colour call forms) j (omega (arith, count, short))
    (at_replicate P (silences_behind call.shape.places.items h) Silent j silent))

-- the voice behind these
pub headed_voice : (P : SentSlot → Type 0) (colour : ℕ) (call : Call) (forms : CallForms) (h : Headers) (place : ℕ)
    → (place ≡ 0 → ⊥) → length h.more.items ≤ place - 1
    → silences_behind call.shape.places.items h ≤ place - 1 - length h.more.items
    → HoldsAt P (voice_slots colour call forms)
    (place - 1 - length h.more.items - silences_behind call.shape.places.items h)
    → HoldsAt P (headed_slots colour call forms h) place
headed_voice P colour call forms h zero some past long here = absurd (some refl)
headed_voice P colour call forms h (suc k) some past behind here =
    let heads : List SentSlot = map (header_slot call forms) h.more.items in
    let gap : List SentSlot = replicate (silences_behind call.shape.places.items h) Silent in
    let j : ℕ = suc k - 1 - length h.more.items in
    let long : length heads ≡ length h.more.items = length-map h.more.items (header_slot call forms) in
    let count : length gap ≡ silences_behind call.shape.places.items h =
    length-replicate (silences_behind call.shape.places.items h) Silent in
    at_right P heads (gap ++ voice_slots colour call forms) j k (omega (arith, long, past))
    (at_right P gap (voice_slots colour call forms) (j - silences_behind call.shape.places.items h) j
    (omega (arith, count, behind)) here)

-- nothing is read past the end
pub none_past : {X : Type 0} (xs : List X) (k : ℕ) → slice_get xs k ≡ None → length xs ≤ k
none_past [] k e = omega arith
none_past (x ∷ xs) zero e = absurd (cc)
none_past (x ∷ xs) (suc k) e = let q = none_past xs k e in omega (arith, q)

-- as many slots stand in front of the first A as places are said to
length_tail : (colour : ℕ) (call : Call) (forms : CallForms) (tail : List Bool) → length tail ≤ 5
    → length (tail_slots colour call forms tail) ≡ length tail
length_tail colour call forms [] le = refl
length_tail colour call forms (a ∷ []) le = refl
length_tail colour call forms (a ∷ b ∷ []) le = refl
length_tail colour call forms (a ∷ b ∷ c ∷ []) le = refl
length_tail colour call forms (a ∷ b ∷ c ∷ d ∷ []) le = refl
length_tail colour call forms (a ∷ b ∷ c ∷ d ∷ e ∷ []) le = refl
length_tail colour call forms (a ∷ b ∷ c ∷ d ∷ e ∷ f ∷ more) le = absurd (omega arith)

-- the rest of a call, in front of its first A
pub late_front : (P : SentSlot → Type 0) (colour : ℕ) (call : Call) (forms : CallForms) (tail : List Bool) (place : ℕ)
    → length tail ≤ 5 → place < length tail → HoldsAt P (tail_slots colour call forms tail) place
    → HoldsAt P (late_slots colour call forms tail) place
late_front P colour call forms tail place five inside here =
    let long : length (tail_slots colour call forms tail) ≡ length tail = length_tail colour call forms tail five in
    at_left P (tail_slots colour call forms tail) (slots_sent colour (late_call call forms [])) place (omega (
      arith,
      long,
      inside,
    )) here

-- and from there on
pub late_voice : (P : SentSlot → Type 0) (colour : ℕ) (call : Call) (forms : CallForms) (tail : List Bool) (place : ℕ)
    → length tail ≤ 5 → length tail ≤ place → HoldsAt P (voice_slots colour call forms) (place - length tail)
    → HoldsAt P (late_slots colour call forms tail) place
late_voice P colour call forms tail place five past here =
    let long : length (tail_slots colour call forms tail) ≡ length tail = length_tail colour call forms tail five in
    let voice : List SentSlot = slots_sent colour (late_call call forms []) in
    at_right P (tail_slots colour call forms tail) voice (place - length tail) place (omega (arith, long, past))
    (subst (λ (l : List SentSlot). HoldsAt P l (place - length tail)) (sym (sent_late colour call forms)) here)
