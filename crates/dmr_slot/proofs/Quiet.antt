-- Lines around which all is silent.
use Rattle.std.proofs.Common.{◌≡◌, ℕ, ◌+◌, ◌-◌, ◌<◌, ◌≤◌, List, [], ◌∷◌, ◌++◌, length, drop, replicate}
use Rattle.std.proofs.Common.{Option, Some, None, false, refl, sym, subst, ◌∙◌, ap, arith, is_some}
use Rattle.std.proofs.lemmas.List.{append-nil, append_assoc, length-append, length-drop, length-replicate}
use Rattle.std.proofs.lemmas.List.{replicate-append-replicate}
use Rattle.dmr_hearing.specs.Hearing.{Hears}
use Rattle.dmr_hearing.specs.Slots.{silence}
use Rattle.dmr_hearing.specs.declared.heard.Heard.{Heard}
use Rattle.dmr_link.specs.declared.full_lc.FullLc.{FullLc}
use Rattle.dmr_voice.specs.CallRules.{step_of, nothing_repeated}
use Rattle.dmr_voice.specs.declared.place.Place.TheVariants.{A, B, C, D, E, F}
use Rattle.dmr_voice.specs.Said.{Said}
use Rattle.dmr_voice.specs.declared.track.Track.{Track}
use Rattle.dmr_voice.specs.declared.track.Track.TheVariants.{Idle, AfterHeader, Gap, InCall}
use Rattle.dmr_slot.specs.LineRules.{LineMemory, EndsSilent, IsPush, moved}
use Rattle.dmr_slot.specs.declared.line.SlotOut.{SlotOut}

silent_front : (front window : List Heard) → window ≡ front ++ replicate 6 silence → length front + 6 ≡ 6
    → window ≡ replicate 6 silence
silent_front [] window p s = p
silent_front (x ∷ front) window p s = absurd (omega arith)

-- a window that ends in six silent places is all silence
pub all_silent : (window : List Heard) → EndsSilent 6 window → window ≡ replicate 6 silence
all_silent window e = silent_front e.front window e.places e.six

window_long : (silent : ℕ) (window : List Heard) → EndsSilent silent window → length window ≡ 6
window_long silent window e =
    ap length e.places ∙ length-append e.front (replicate silent silence)
    ∙ ap (λ n. length e.front + n) (length-replicate silent silence) ∙ e.six

moved_long : (window : List Heard) (heard : Heard) → length window ≡ 6 → length (moved window heard) + 0 ≡ 6
moved_long window heard long =
    let e : length (moved window heard) ≡ length (drop 1 window) + 1 = length-append (drop 1 window) (heard ∷ []) in
    let f : length (drop 1 window) ≡ length window - 1 = length-drop 1 window in
    omega arith

-- A burst ends the silence,
pub ends_none : (silent : ℕ) (window : List Heard) (heard : Heard) → EndsSilent silent window → EndsSilent 0 (moved window heard)
ends_none silent window heard e = record {
  front = moved window heard;
  places = sym (append-nil (moved window heard));
  six = moved_long window heard (window_long silent window e);
}

one_more : (silent : ℕ) (front window : List Heard) → silent < 6 → window ≡ front ++ replicate silent silence
    → length front + silent ≡ 6 → EndsSilent (silent + 1) (moved window silence)
one_more silent [] window few p s = absurd (omega arith)
one_more silent (x ∷ front) window few p s = record {
  front = front;
  places = ap (λ places. moved places silence) p ∙ append_assoc front (replicate silent silence) (silence ∷ [])
      ∙ ap (λ places. front ++ places) (replicate-append-replicate silent 1 silence);
  six = omega arith;
}

-- and a silent slot makes it longer,
pub ends_more : (silent : ℕ) (window : List Heard) → silent < 6 → EndsSilent silent window
    → EndsSilent (silent + 1) (moved window silence)
ends_more silent window few e = one_more silent e.front window few e.places e.six

still_six : (window : List Heard) → EndsSilent 6 window → EndsSilent 6 (moved window silence)
still_six window e = record {
  front = [];
  places = ap (λ places. moved places silence) (all_silent window e);
  six = refl;
}

-- as long as the places that are kept.
pub ends_kept : (silent : ℕ) (window : List Heard) → 6 ≤ silent → EndsSilent silent window
    → EndsSilent silent (moved window silence)
ends_kept silent window all e =
    let six : silent ≡ 6 = (let s = e.six in omega arith) in
    subst (λ n. EndsSilent n (moved window silence)) (sym six) (still_six window (subst (λ n. EndsSilent n window) six e))

-- Where all are silent there is no call.
pub step_silent : (colour : ℕ) (state : Track) (carried : Option FullLc)
    → step_of colour state (replicate 6 silence) carried ≡ nothing_repeated
step_silent colour Idle carried = refl
step_silent colour (AfterHeader header) carried = refl
step_silent colour (Gap header) carried = refl
step_silent colour (InCall A call superframe) carried = refl
step_silent colour (InCall B call superframe) carried = refl
step_silent colour (InCall C call superframe) carried = refl
step_silent colour (InCall D call superframe) carried = refl
step_silent colour (InCall E call superframe) carried = refl
step_silent colour (InCall F call superframe) carried = refl

-- after a step over six silent places a track is outside a call
pub state_silent : (colour silent : ℕ) (state next : Track) (window : List Heard) (carried : Option FullLc)
    → EndsSilent silent window → next ≡ (step_of colour state window carried).1 → silent ≡ 6 → next ≡ Idle
state_silent colour silent state next window carried e steps six =
    steps ∙ ap (λ places. (step_of colour state places carried).1) (all_silent window (subst (λ n. EndsSilent n window) six e))
    ∙ ap (λ (step : Said × Track). step.1) (step_silent colour state carried)

-- a slot without a burst is heard as silence
pub heard_silent : (colour : ℕ) (slot : Option (List ℕ)) (heard : Heard) → Hears colour slot heard → slot ≡ None → heard ≡ silence
heard_silent colour slot heard hears none = subst (λ slot. Hears colour slot heard) none hears

-- A push that gives nothing and changes nothing,
abbrev pub Stays : ℕ → ℕ → List Heard → Track → ℕ → Option FullLc → Option (List ℕ) → Type 0
Stays colour call_hang window state left lc slot =
    let memory : LineMemory =
    record { colour = colour; call_hang = call_hang; window = window; state = state; left = left; lc = lc } in
    let free : SlotOut = record { repeated = None; hang = None; lc = None } in
    IsPush memory slot free memory

-- as that of a silent slot where all around it is silent.
none_of : (slot : Option (List ℕ)) → is_some slot ≡ false → slot ≡ None
none_of (Some octets) e = absurd (cc (e))
none_of None e = refl

push_of_silence : (colour call_hang : ℕ) (lc : Option FullLc) → Stays colour call_hang (replicate 6 silence) Idle 0 lc None
push_of_silence colour call_hang lc = record {
  heard = silence;
  carried = None;
  hears = refl;
  carries = record { read = λ c. absurd (cc (c)); nothing = λ c. refl };
  gives = refl;
  remembers = refl;
}

-- Where all is silent and no call holds the slot, the push of a silent slot gives nothing and changes nothing.
pub push_silent : (colour call_hang silent left : ℕ) (window : List Heard) (state : Track) (lc : Option FullLc)
    (slot : Option (List ℕ)) → is_some slot ≡ false → EndsSilent silent window → silent ≡ 6 → (silent ≡ 6 → state ≡ Idle)
    → left ≡ 0 → Stays colour call_hang window state left lc slot
push_silent colour call_hang silent left window state lc slot none ends six idle over =
    rw (none_of slot none) (rw (all_silent window (subst (λ n. EndsSilent n window) six ends)) (rw (idle six) (rw over
    (push_of_silence colour call_hang lc))))
