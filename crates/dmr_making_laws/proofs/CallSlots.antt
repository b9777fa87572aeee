-- The parts of a call, and calls as another colour code hears them.
use Rattle.std.proofs.Common.{◌≡◌, ℕ, ◌≤◌, Bool, true, false, List, [], ◌∷◌}
use Rattle.std.proofs.Common.{◌++◌, map, length, replicate, flat_map, Some, None, refl, ap, subst, sym, ◌∙◌, arith}
use Rattle.std.proofs.Common.{append_assoc, append-nil}
use Rattle.std.proofs.lemmas.List.{length-map, length-append, length-replicate}
use Rattle.std.specs.List.{AllByRecursion, AllZip}
use Rattle.dmr_burst.specs.DataTypes as data_type
use Rattle.dmr_hearing.specs.Slots.{SentSlot, Silent, Data}
use Rattle.dmr_making.proofs.CallSlots.{sent_headed, sent_late}
use Rattle.dmr_making.proofs.Seen.{all_append, all_map, all_same, late_seen}
use Rattle.dmr_making.specs.Calls.{AreFormsOf, CallForms, header_slot, headed_call, late_call, silences_behind}
use Rattle.dmr_making.specs.Calls.{slots_sent, slots_with, superframe_slots, superframes_from, tail_slots, voice_slots}
use Rattle.dmr_making.specs.Fit.{IsFitStart}
use Rattle.dmr_making.specs.Seen.{IsSeenAs}
use Rattle.dmr_making_laws.proofs.CallPlaces.{voice_sent}
use Rattle.dmr_making_laws.proofs.SentSlots.{IsDataOrSilent, no_sync}
use Rattle.dmr_making_laws.proofs.Told.{AreTold, IsNoSync, told_places}
use Rattle.dmr_making_laws.proofs.Told.{told_plain}
use Rattle.dmr_planning.specs.Counting.{start_count}
use Rattle.dmr_script.specs.Foreign.{has_embs}
use Rattle.dmr_script.specs.declared.call.Call.{Call}
use Rattle.dmr_script.specs.declared.shape.CallStart.{CallStart}
use Rattle.dmr_script.specs.declared.shape.CallStart.TheVariants as start
use Rattle.dmr_script.specs.declared.shape.HeaderKind.{HeaderKind}
use Rattle.dmr_script.specs.declared.shape.HeaderKind.TheVariants as header
use Rattle.dmr_script.specs.declared.shape.Headers.{Headers}
use Rattle.dmr_script.specs.declared.shape.Place.TheVariants as letter

-- 1. Parts of a call.

-- the data bursts that end a call
abbrev pub ends_of : Call → CallForms → List SentSlot
ends_of call forms = replicate call.shape.terminators (Data data_type.terminator_with_lc forms.terminator (Some call.link_control))

-- what stands in front of the voice of a call that begins with headers
abbrev pub front_of : Call → CallForms → Headers → List SentSlot
front_of call forms h =
    header_slot call forms header.Voice
    ∷ (map (header_slot call forms) h.more.items ++ replicate (silences_behind call.shape.places.items h) Silent)

header_data : (call : Call) (forms : CallForms) (kind : HeaderKind) → IsDataOrSilent (header_slot call forms kind)
header_data call forms header.Voice = tt
header_data call forms header.Privacy = tt

-- What stands in front of the voice is data or silence, and so is what ends a call.
pub front_data : (call : Call) (forms : CallForms) (h : Headers) → AllByRecursion IsDataOrSilent (front_of call forms h)
front_data call forms h = (
  tt,
  all_append IsDataOrSilent (map (header_slot call forms) h.more.items)
      (replicate (silences_behind call.shape.places.items h) Silent)
      (all_map IsDataOrSilent (header_slot call forms) h.more.items (header_data call forms))
      (all_same IsDataOrSilent (silences_behind call.shape.places.items h) Silent tt),
)

-- the terminators of a call are data bursts
pub ends_data : (call : Call) (forms : CallForms) → AllByRecursion IsDataOrSilent (ends_of call forms)
ends_data call forms =
    all_same IsDataOrSilent call.shape.terminators
    (Data data_type.terminator_with_lc forms.terminator (Some call.link_control)) tt

-- there are as many as are counted in front of the voice
pub front_length : (call : Call) (forms : CallForms) (h : Headers)
    → length (front_of call forms h) ≡ start_count (start.Headers h) call.shape.places.items
front_length call forms h =
    let leads : List SentSlot = map (header_slot call forms) h.more.items in
    let gap : List SentSlot = replicate (silences_behind call.shape.places.items h) Silent in
    let a = length-append leads gap in
    let b = length-map h.more.items (header_slot call forms) in
    let c = length-replicate (silences_behind call.shape.places.items h) Silent in
    omega (arith, a, b, c)

-- a call that begins with headers is these, and its voice
pub headed_is : (colour : ℕ) (call : Call) (forms : CallForms) (h : Headers)
    → slots_sent colour (headed_call call forms h call.shape.places.items) ≡ front_of call forms h ++ voice_slots colour call forms
headed_is colour call forms h =
    sent_headed colour call forms h call.shape.places.items refl
    ∙ ap (λ (l : List SentSlot). header_slot call forms header.Voice ∷ l)
    (sym (append_assoc (map (header_slot call forms) h.more.items)
    (replicate (silences_behind call.shape.places.items h) Silent) (voice_slots colour call forms)))

-- the front of a late call has no sync
tail_no_sync : (colour : ℕ) (call : Call) (forms : CallForms) (tail : List Bool) (slots rest : List SentSlot)
    → length slots ≡ length tail → AllZip IsSeenAs (slots_sent colour (late_call call forms tail)) (slots ++ rest)
    → AllByRecursion IsNoSync slots
tail_no_sync colour call forms [] [] rest e s = tt
tail_no_sync colour call forms [] (x ∷ slots) rest e s = absurd (omega (arith, e))
tail_no_sync colour call forms (b ∷ tail) [] rest e s = tt
tail_no_sync colour call forms (true ∷ tail) (x ∷ slots) rest e s =
    (subst IsNoSync (sym s.0.2) tt, tail_no_sync colour call forms tail slots rest (omega (arith, e)) s.1)
tail_no_sync colour call forms (false ∷ tail) (x ∷ slots) rest e s =
    (subst IsNoSync (sym s.0) tt, tail_no_sync colour call forms tail slots rest (omega (arith, e)) s.1)

-- it has as many slots as places
pub length_tail : (colour : ℕ) (call : Call) (forms : CallForms) (tail : List Bool) → length tail ≤ 5
    → length (tail_slots colour call forms tail) ≡ length tail
length_tail colour call forms [] le = refl
length_tail colour call forms (f ∷ []) le = refl
length_tail colour call forms (e ∷ f ∷ []) le = refl
length_tail colour call forms (d ∷ e ∷ f ∷ []) le = refl
length_tail colour call forms (c ∷ d ∷ e ∷ f ∷ []) le = refl
length_tail colour call forms (b ∷ c ∷ d ∷ e ∷ f ∷ []) le = refl
length_tail colour call forms (a ∷ b ∷ c ∷ d ∷ e ∷ f ∷ more) le = absurd (omega arith)

-- 2. They are told.

ends_told : (call : Call) (forms : CallForms) → AreTold None (ends_of call forms)
ends_told call forms =
    subst (AreTold None) (append-nil (ends_of call forms))
    (told_plain (ends_of call forms) [] (no_sync (ends_of call forms) (ends_data call forms)) tt)

voice_told : (colour : ℕ) (call : Call) (forms : CallForms) → has_embs letter.A call.shape.places.items ≡ true
    → AreTold None (voice_slots colour call forms)
voice_told colour call forms embs =
    told_places call.shape.places.items
    (flat_map (superframe_slots colour) (superframes_from call forms.fields 0 call.shape.places.items)) (ends_of call forms) embs
    (voice_sent colour call forms.fields 0 call.shape.places.items) (ends_told call forms)

-- A call of another colour code is told, where its EMBs stand near its voice syncs.
pub call_told : (colour : ℕ) (call : Call) (forms : CallForms) (s : CallStart) → AreFormsOf call forms → IsFitStart s
    → has_embs letter.A call.shape.places.items ≡ true → AreTold None (slots_with colour call forms s)
call_told colour call forms (start.Headers h) are fit embs =
    subst (AreTold None) (sym (headed_is colour call forms h))
    (told_plain (front_of call forms h) (voice_slots colour call forms)
    (no_sync (front_of call forms h) (front_data call forms h)) (voice_told colour call forms embs))
call_told colour call forms (start.Late tail) are fit embs =
    let front : List SentSlot = tail_slots colour call forms tail.items in
    let rest : List SentSlot = slots_sent colour (late_call call forms []) in
    told_plain front rest
    (tail_no_sync colour call forms tail.items front rest (length_tail colour call forms tail.items fit)
    (late_seen colour call forms tail.items are fit).seen)
    (subst (AreTold None) (sym (sent_late colour call forms)) (voice_told colour call forms embs))
