-- What stands in a place of the voice of a call.
use Rattle.std.proofs.Common.{◌≡◌, ℕ, zero, suc, ◌+◌, ◌*◌, ◌<◌, ◌≤◌, ◌++◌, Bool, true, false, List, [], ◌∷◌, map, zip, length}
use Rattle.std.proofs.Common.{arith}
use Rattle.std.proofs.Common.{refl, sym, subst, Option, Some, get_or, flat_map, ◌∙◌}
use Rattle.std.proofs.Math.ListN.{get_or-append}
use Rattle.std.proofs.lemmas.List.{append-nil}
use Rattle.dmr_hearing.specs.Slots.{SentSlot, Silent}
use Rattle.dmr_link.specs.declared.full_lc.FullLc.{FullLc}
use Rattle.dmr_making.proofs.Standing.{at_left, at_past}
use Rattle.dmr_making.specs.Calls.{place_slot, places_with, six_fields, superframe_of, superframe_slots, superframes_from}
use Rattle.dmr_making.specs.Calls.{carried_by}
use Rattle.dmr_making.specs.Places.{full_slots}
use Rattle.dmr_making.specs.Standing.{HoldsAt}
use Rattle.dmr_script.specs.declared.call.Call.{Call}
use Rattle.dmr_voice.specs.declared.place.Place.{Place}
use Rattle.dmr_voice.specs.declared.place.Place.TheVariants.{A, B, C, D, E, F}

-- places with these letters and fields, all of them there
abbrev pub all_there : ℕ → Option FullLc → Bool → List Place → List ℕ → List SentSlot
all_there colour carries pi letters fields =
    map (λ p. place_slot colour carries p.0 (Some (record { pi = pi; embedded = p.1 }))) (zip letters fields)

-- and each there or absent
abbrev pub some_there : ℕ → Option FullLc → Bool → List Place → List ℕ → List Bool → List SentSlot
some_there colour carries pi letters fields presence =
    map (λ p. place_slot colour carries p.0 p.1) (zip letters (places_with pi fields presence))

-- A place that is there sends what it sends where all are there, and an absent one nothing.
pub place_at : (P : SentSlot → Type 0) (colour : ℕ) (carries : Option FullLc) (pi : Bool) (letters : List Place)
    → (fields : List ℕ) (presence : List Bool) (k : ℕ)
    → (get_or presence k true ≡ true → HoldsAt P (all_there colour carries pi letters fields) k)
    → (get_or presence k true ≡ false → P Silent)
    → HoldsAt P (some_there colour carries pi letters fields presence) k
place_at P colour carries pi [] fields presence k here silent = tt
place_at P colour carries pi (l ∷ ls) [] presence k here silent = tt
place_at P colour carries pi (l ∷ ls) (f ∷ fs) [] k here silent = tt
place_at P colour carries pi (l ∷ ls) (f ∷ fs) (true ∷ bs) zero here silent = here refl
place_at P colour carries pi (l ∷ ls) (f ∷ fs) (false ∷ bs) zero here silent = silent refl
place_at P colour carries pi (l ∷ ls) (f ∷ fs) (b ∷ bs) (suc k) here silent =
    place_at P colour carries pi ls fs bs k here silent

-- there are no more than there are letters
length_some : (colour : ℕ) (carries : Option FullLc) (pi : Bool) (letters : List Place) (fields : List ℕ) (presence : List Bool)
    → length (some_there colour carries pi letters fields presence) ≤ length letters
length_some colour carries pi [] fields presence = omega arith
length_some colour carries pi (l ∷ ls) [] presence = omega arith
length_some colour carries pi (l ∷ ls) (f ∷ fs) [] = omega arith
length_some colour carries pi (l ∷ ls) (f ∷ fs) (b ∷ bs) = let k = length_some colour carries pi ls fs bs in omega (arith, k)

-- the number of a place of the voice, by its superframe and by its number there
abbrev pub place_index : ℕ → ℕ → ℕ
place_index zero p = p
place_index (suc n) p = suc (suc (suc (suc (suc (suc (place_index n p))))))

-- Places are counted through, six a superframe.
pub index_is : (n p : ℕ) → place_index n p ≡ 6 * n + p
index_is zero p = omega arith
index_is (suc n) p = let e = index_is n p in omega (arith, e)

-- a short list that stands alone
at_end : (P : SentSlot → Type 0) (xs : List SentSlot) (k : ℕ) → HoldsAt P xs k → HoldsAt P (xs ++ []) k
at_end P xs k h = subst (λ (l : List SentSlot). HoldsAt P l k) (sym (append-nil xs)) h

-- what a place of the superframe with this number sends, where it is there
abbrev pub IsFullAt : (SentSlot → Type 0) → ℕ → Call → (ℕ → List ℕ) → ℕ → ℕ → Type 0
IsFullAt P colour call fields number p =
    HoldsAt P (full_slots colour call.pi (carried_by call.link_control call.carried.items number) (fields number)) p

-- the same in a superframe of which some places are there
one_at : (P : SentSlot → Type 0) (colour : ℕ) (call : Call) (fields : ℕ → List ℕ) (number : ℕ) (part : List Bool) (p : ℕ)
    → (get_or part p true ≡ true → IsFullAt P colour call fields number p) → (get_or part p true ≡ false → P Silent)
    → HoldsAt P (superframe_slots colour (superframe_of call fields number part)) p
one_at P colour call fields number part p here silent =
    place_at P colour (carried_by call.link_control call.carried.items number) call.pi (A ∷ B ∷ C ∷ D ∷ E ∷ F ∷ [])
    (six_fields (fields number)) part p here silent

-- and in the last one
part_at : (P : SentSlot → Type 0) (colour : ℕ) (call : Call) (fields : ℕ → List ℕ) (number : ℕ) (part : List Bool) (m n p : ℕ)
    → m ≡ n + number
    → (get_or part (place_index n p) true ≡ true → IsFullAt P colour call fields m p)
    → (get_or part (place_index n p) true ≡ false → P Silent)
    → HoldsAt P (superframe_slots colour (superframe_of call fields number part) ++ []) (place_index n p)
part_at P colour call fields number part m zero p e here silent =
    let same : m ≡ number = omega arith in
    at_end P (superframe_slots colour (superframe_of call fields number part)) p
    (one_at P colour call fields number part p (λ q. subst (λ (x : ℕ). IsFullAt P colour call fields x p) same (here q)) silent)
part_at P colour call fields number part m (suc n) p e here silent =
    let short = length_some colour (carried_by call.link_control call.carried.items number) call.pi (A ∷ B ∷ C ∷ D ∷ E ∷ F ∷ [])
    (six_fields (fields number)) part in
    at_end P (superframe_slots colour (superframe_of call fields number part)) (place_index (suc n) p)
    (at_past P (superframe_slots colour (superframe_of call fields number part)) (place_index (suc n) p) (omega (arith, short)))

-- What stands in a place of the voice: what its superframe sends there, where it is there, or nothing.
pub voice_at : (P : SentSlot → Type 0) (colour : ℕ) (call : Call) (fields : ℕ → List ℕ) (number : ℕ) (bs : List Bool)
    → (m n p : ℕ) → p < 6 → m ≡ n + number
    → (get_or bs (place_index n p) true ≡ true → IsFullAt P colour call fields m p)
    → (get_or bs (place_index n p) true ≡ false → P Silent)
    → HoldsAt P (flat_map (superframe_slots colour) (superframes_from call fields number bs)) (place_index n p)
voice_at P colour call fields number [] m n p lt e here silent = tt
voice_at P colour call fields number (a ∷ b ∷ c ∷ d ∷ g ∷ f ∷ more) m zero p lt e here silent =
    let same : m ≡ number = omega arith in
    let six : List Bool = a ∷ b ∷ c ∷ d ∷ g ∷ f ∷ [] in
    let rest : List SentSlot = flat_map (superframe_slots colour) (superframes_from call fields (suc number) more) in
    let front : get_or (six ++ more) p true ≡ get_or six p true = get_or-append six more true p lt in
    let long : length (superframe_slots colour (superframe_of call fields number six)) ≡ 6 = refl in
    at_left P (superframe_slots colour (superframe_of call fields number six)) rest p (omega (arith, long, lt))
    (one_at P colour call fields number six p
    (λ q. subst (λ (x : ℕ). IsFullAt P colour call fields x p) same (here (front ∙ q)))
    (λ q. silent (front ∙ q)))
voice_at P colour call fields number (a ∷ b ∷ c ∷ d ∷ g ∷ f ∷ more) m (suc n) p lt e here silent =
    voice_at P colour call fields (suc number) more m n p lt (omega arith) here silent
voice_at P colour call fields number (a ∷ []) m n p lt e here silent =
    part_at P colour call fields number (a ∷ []) m n p e here silent
voice_at P colour call fields number (a ∷ b ∷ []) m n p lt e here silent =
    part_at P colour call fields number (a ∷ b ∷ []) m n p e here silent
voice_at P colour call fields number (a ∷ b ∷ c ∷ []) m n p lt e here silent =
    part_at P colour call fields number (a ∷ b ∷ c ∷ []) m n p e here silent
voice_at P colour call fields number (a ∷ b ∷ c ∷ d ∷ []) m n p lt e here silent =
    part_at P colour call fields number (a ∷ b ∷ c ∷ d ∷ []) m n p e here silent
voice_at P colour call fields number (a ∷ b ∷ c ∷ d ∷ g ∷ []) m n p lt e here silent =
    part_at P colour call fields number (a ∷ b ∷ c ∷ d ∷ g ∷ []) m n p e here silent

-- The voice has as many slots as places.
pub length_voice : (colour : ℕ) (call : Call) (fields : ℕ → List ℕ) (number : ℕ) (bs : List Bool)
    → length (flat_map (superframe_slots colour) (superframes_from call fields number bs)) ≡ length bs
length_voice colour call fields number [] = refl
length_voice colour call fields number (a ∷ b ∷ c ∷ d ∷ g ∷ f ∷ more) =
    let k = length_voice colour call fields (suc number) more in omega (arith, k)
length_voice colour call fields number (a ∷ []) = refl
length_voice colour call fields number (a ∷ b ∷ []) = refl
length_voice colour call fields number (a ∷ b ∷ c ∷ []) = refl
length_voice colour call fields number (a ∷ b ∷ c ∷ d ∷ []) = refl
length_voice colour call fields number (a ∷ b ∷ c ∷ d ∷ g ∷ []) = refl
