-- Behind six frames what is kept of a slot hangs on these alone.
use Rattle.std.proofs.Common.{◌≡◌, ℕ, suc, ◌+◌, ◌-◌, ◌≤◌, ◌⊎◌, List, [], ◌∷◌, ◌++◌, length, drop}
use Rattle.std.proofs.Common.{Option, Some, None, refl, sym, ap, ◌∙◌, subst, arith, inl, inr, append_assoc, append-nil}
use Rattle.std.specs.Prelude.{option_and_then}
use Rattle.dmr_listing.specs.Lines.{SlotPast, fragment_of}
use Rattle.dmr_listing.specs.VoicePlace.{following, frames_behind, place_after}
use Rattle.dmr_listing.specs.declared.fragments.Fragment.{Fragment}
use Rattle.dmr_listing.specs.declared.voice_place.VoicePlace.{VoicePlace}
use Rattle.dmr_listing.specs.declared.voice_place.VoicePlace.TheVariants.{A, B, C, D, E, F}
use Rattle.dmr_reading.specs.declared.reading.Reading.{Reading}
use Rattle.dmr_reading.specs.declared.reading.Reading.TheVariants.{Data, Untyped, VoiceSync, Voice, Unreadable}
use Rattle.dmr_web.specs.LookingBack.{SlotFrame, behind_frame, behind_frames}

-- the slot stands in no place of a superframe, or in one that is so many frames behind its begin at least
abbrev IsLate : ℕ → Option VoicePlace → Type 0
IsLate count None = Unit {0}
IsLate count (Some place) = count ≤ frames_behind place

-- Both stand in one place, or in such as came of what was before.
abbrev AgreePlaces : ℕ → Option VoicePlace → Option VoicePlace → Type 0
AgreePlaces count p q = (p ≡ q) ⊎ (IsLate count p × IsLate count q)

later : (count : ℕ) (p : Option VoicePlace) → IsLate count p → IsLate (suc count) (option_and_then following p)
later count None late = tt
later count (Some A) late = omega (arith, late)
later count (Some B) late = omega (arith, late)
later count (Some C) late = omega (arith, late)
later count (Some D) late = omega (arith, late)
later count (Some E) late = omega (arith, late)
later count (Some F) late = tt

follow : (count : ℕ) (p q : Option VoicePlace) → AgreePlaces count p q
    → AgreePlaces (suc count) (option_and_then following p) (option_and_then following q)
follow count p q (inl same) = inl (ap (option_and_then following) same)
follow count p q (inr (late, other)) = inr (later count p late, later count q other)

agree_after : (count : ℕ) (p q : Option VoicePlace) (reading : Option Reading) → AgreePlaces count p q
    → AgreePlaces (suc count) (place_after p reading) (place_after q reading)
agree_after count p q None agree = follow count p q agree
agree_after count p q (Some (Data side slot_type information)) agree = inl refl
agree_after count p q (Some (Untyped side)) agree = inl refl
agree_after count p q (Some (VoiceSync side)) agree = inl refl
agree_after count p q (Some (Voice emb)) agree = follow count p q agree
agree_after count p q (Some Unreadable) agree = follow count p q agree

too_late : (count : ℕ) (p : Option VoicePlace) → 6 ≤ count → IsLate count p → p ≡ None
too_late count None six late = refl
too_late count (Some A) six late = absurd (omega (arith, six, late))
too_late count (Some B) six late = absurd (omega (arith, six, late))
too_late count (Some C) six late = absurd (omega (arith, six, late))
too_late count (Some D) six late = absurd (omega (arith, six, late))
too_late count (Some E) six late = absurd (omega (arith, six, late))
too_late count (Some F) six late = absurd (omega (arith, six, late))

one_place : (count : ℕ) (p q : Option VoicePlace) → 6 ≤ count → AgreePlaces count p q → p ≡ q
one_place count p q six (inl same) = same
one_place count p q six (inr (late, other)) = too_late count p six late ∙ sym (too_late count q six other)

-- Both keep the same of the newest frames, and behind that older ones as far as there is room for them.
record AgreeFragments (count : ℕ) (p q : List (Option Fragment)) : Type 0 where
  pub old_p : List (Option Fragment)
  pub old_q : List (Option Fragment)
  pub newest : List (Option Fragment)
  pub of_p : p ≡ old_p ++ newest
  pub of_q : q ≡ old_q ++ newest
  pub room_p : length old_p ≡ 4 - count
  pub room_q : length old_q ≡ 4 - count

-- one frame more, where older ones are still kept
push_old : (count : ℕ) (x y : Option Fragment) (xs ys newest : List (Option Fragment)) (one : Option Fragment)
    → suc (length xs) ≡ 4 - count → suc (length ys) ≡ 4 - count
    → AgreeFragments (suc count) (drop 1 ((x ∷ xs) ++ newest) ++ one ∷ []) (drop 1 ((y ∷ ys) ++ newest) ++ one ∷ [])
push_old count x y xs ys newest one room_p room_q = record {
  old_p = xs;
  old_q = ys;
  newest = newest ++ one ∷ [];
  of_p = append_assoc xs newest (one ∷ []);
  of_q = append_assoc ys newest (one ∷ []);
  room_p = omega (arith, room_p);
  room_q = omega (arith, room_q);
}

-- and where none is
push_new : (count : ℕ) (newest : List (Option Fragment)) (one : Option Fragment) → 0 ≡ 4 - count
    → AgreeFragments (suc count) (drop 1 newest ++ one ∷ []) (drop 1 newest ++ one ∷ [])
push_new count newest one room = record {
  old_p = [];
  old_q = [];
  newest = drop 1 newest ++ one ∷ [];
  of_p = refl;
  of_q = refl;
  room_p = omega (arith, room);
  room_q = omega (arith, room);
}

push : (count : ℕ) (old_p old_q newest : List (Option Fragment)) (one : Option Fragment) → length old_p ≡ 4 - count
    → length old_q ≡ 4 - count
    → AgreeFragments (suc count) (drop 1 (old_p ++ newest) ++ one ∷ []) (drop 1 (old_q ++ newest) ++ one ∷ [])
push count [] [] newest one room_p room_q = push_new count newest one room_p
push count [] (y ∷ ys) newest one room_p room_q = absurd (omega (arith, room_p, room_q))
push count (x ∷ xs) [] newest one room_p room_q = absurd (omega (arith, room_p, room_q))
push count (x ∷ xs) (y ∷ ys) newest one room_p room_q = push_old count x y xs ys newest one room_p room_q

agree_pushed : (count : ℕ) (p q : List (Option Fragment)) (one : Option Fragment) → AgreeFragments count p q
    → AgreeFragments (suc count) (drop 1 p ++ one ∷ []) (drop 1 q ++ one ∷ [])
agree_pushed count p q one agree =
    subst (λ l. AgreeFragments (suc count) (drop 1 l ++ one ∷ []) (drop 1 q ++ one ∷ [])) (sym agree.of_p)
    (subst (λ l. AgreeFragments (suc count) (drop 1 (agree.old_p ++ agree.newest) ++ one ∷ []) (drop 1 l ++ one ∷ []))
    (sym agree.of_q) (push count agree.old_p agree.old_q agree.newest one agree.room_p agree.room_q))

no_room : (xs : List (Option Fragment)) (count : ℕ) → 6 ≤ count → length xs ≡ 4 - count → xs ≡ []
no_room [] count six room = refl
no_room (x ∷ xs) count six room = absurd (omega (arith, six, room))

one_list : (count : ℕ) (p q : List (Option Fragment)) → 6 ≤ count → AgreeFragments count p q → p ≡ q
one_list count p q six agree =
    agree.of_p ∙ ap (λ l. l ++ agree.newest) (no_room agree.old_p count six agree.room_p)
    ∙ sym (ap (λ l. l ++ agree.newest) (no_room agree.old_q count six agree.room_q)) ∙ sym agree.of_q

-- What is kept of the slot agrees as far as so many frames say it.
record AgreePasts (count : ℕ) (p q : SlotPast) : Type 0 where
  pub places : AgreePlaces count p.place q.place
  pub fragments : AgreeFragments count p.fragments q.fragments

agree_behind : (count : ℕ) (p q : SlotPast) (frame : SlotFrame) → AgreePasts count p q
    → AgreePasts (suc count) (behind_frame frame p) (behind_frame frame q)
agree_behind count p q None agree = record {
  places = agree_after count p.place q.place None agree.places;
  fragments = agree_pushed count p.fragments q.fragments None agree.fragments;
}
agree_behind count p q (Some burst) agree = record {
  places = agree_after count p.place q.place (Some burst.0) agree.places;
  fragments = agree_pushed count p.fragments q.fragments (fragment_of burst.0 burst.1) agree.fragments;
}

one_past : (count : ℕ) (p q : SlotPast) → 6 ≤ count → AgreePasts count p q → p ≡ q
one_past count p q six agree =
    ap (λ place. record { place = place; fragments = p.fragments }) (one_place count p.place q.place six agree.places)
    ∙ ap (λ fragments. record { place = q.place; fragments = fragments })
    (one_list count p.fragments q.fragments six agree.fragments)

agree_to_the_end : (count : ℕ) (p q : SlotPast) (frames : List SlotFrame) → 6 ≤ count + length frames → AgreePasts count p q
    → behind_frames frames p ≡ behind_frames frames q
agree_to_the_end count p q [] six agree = one_past count p q (omega (arith, six)) agree
agree_to_the_end count p q (frame ∷ frames) six agree =
    agree_to_the_end (suc count) (behind_frame frame p) (behind_frame frame q) frames (omega (arith, six))
    (agree_behind count p q frame agree)

none_late : (p : Option VoicePlace) → IsLate 0 p
none_late None = tt
none_late (Some place) = omega arith

-- whatever was kept before six frames
pub six_back : (p q : SlotPast) (frames : List SlotFrame) → length p.fragments ≡ 4 → length q.fragments ≡ 4 → 6 ≤ length frames
    → behind_frames frames p ≡ behind_frames frames q
six_back p q frames of_p of_q six = agree_to_the_end 0 p q frames (omega (arith, six)) (record {
  places = inr (none_late p.place, none_late q.place);
  fragments = record {
    old_p = p.fragments;
    old_q = q.fragments;
    newest = [];
    of_p = sym (append-nil p.fragments);
    of_q = sym (append-nil q.fragments);
    room_p = of_p;
    room_q = of_q;
  };
})
