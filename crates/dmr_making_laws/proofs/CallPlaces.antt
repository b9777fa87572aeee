-- What the places of a call send, there or absent.
use Rattle.std.proofs.Common.{◌≡◌, ℕ, suc, Bool, true, false, ◌≤◌, List, [], ◌∷◌, ◌++◌, length, flat_map}
use Rattle.std.proofs.Common.{Option, Some, None, arith, refl, subst, sym, if◌then◌else◌}
use Rattle.dmr_hearing.specs.Slots.{SentSlot}
use Rattle.dmr_link.specs.declared.full_lc.FullLc.{FullLc}
use Rattle.dmr_making.specs.Calls.{carried_by, place_slot, six_fields, superframe_of, superframe_slots}
use Rattle.dmr_making.specs.Calls.{superframes_from}
use Rattle.dmr_making.proofs.Superframes.{some_there}
use Rattle.dmr_making_laws.proofs.Told.{ArePlacesSent, IsSentPlace}
use Rattle.dmr_script.specs.declared.call.Call.{Call}
use Rattle.dmr_script.specs.Shapes.{next_place, place_past}
use Rattle.dmr_script.specs.declared.shape.Place.{Place as Letter}
use Rattle.dmr_script.specs.declared.shape.Place.TheVariants as letter
use Rattle.dmr_voice.specs.CallMeaning.{Present}
use Rattle.dmr_voice.specs.Places.{lcss}
use Rattle.dmr_voice.specs.declared.place.Place.{Place}
use Rattle.dmr_voice.specs.declared.place.Place.TheVariants.{A, B, C, D, E, F}

-- the letter of a place of a superframe
abbrev letter_of : Place → Letter
letter_of A = letter.A
letter_of B = letter.B
letter_of C = letter.C
letter_of D = letter.D
letter_of E = letter.E
letter_of F = letter.F

-- one place
place_sent : (colour : ℕ) (place : Place) (carries : Option FullLc) (there : Bool) (y : Present)
    → IsSentPlace (letter_of place) there (place_slot colour carries place (if there then Some y else None))
place_sent colour A carries true y = refl
place_sent colour B carries true y = (record { colour = colour; pi = y.pi; lcss = lcss B carries }, y.embedded, refl)
place_sent colour C carries true y = (record { colour = colour; pi = y.pi; lcss = lcss C carries }, y.embedded, refl)
place_sent colour D carries true y = (record { colour = colour; pi = y.pi; lcss = lcss D carries }, y.embedded, refl)
place_sent colour E carries true y = (record { colour = colour; pi = y.pi; lcss = lcss E carries }, y.embedded, refl)
place_sent colour F carries true y = (record { colour = colour; pi = y.pi; lcss = lcss F carries }, y.embedded, refl)
place_sent colour A carries false y = refl
place_sent colour B carries false y = refl
place_sent colour C carries false y = refl
place_sent colour D carries false y = refl
place_sent colour E carries false y = refl
place_sent colour F carries false y = refl

-- letters from one on
abbrev IsRun : Letter → List Place → Type 0
IsRun letter [] = Unit {0}
IsRun letter (place ∷ places) = (letter ≡ letter_of place) × IsRun (next_place letter) places

-- the places of a superframe, as far as they go
run_sent : (colour : ℕ) (carries : Option FullLc) (pi : Bool) (letter : Letter) (letters : List Place) (fields : List ℕ)
    → (bs : List Bool) → IsRun letter letters → length bs ≤ length letters → length letters ≤ length fields
    → ArePlacesSent letter bs (some_there colour carries pi letters fields bs)
run_sent colour carries pi letter [] fields [] run le few = tt
run_sent colour carries pi letter [] fields (b ∷ bs) run le few = absurd (omega arith)
run_sent colour carries pi letter (l ∷ ls) [] bs run le few = absurd (omega arith)
run_sent colour carries pi letter (l ∷ ls) (f ∷ fs) [] run le few = tt
run_sent colour carries pi letter (l ∷ ls) (f ∷ fs) (b ∷ bs) run le few =
    let y : Present = record { pi = pi; embedded = f } in (
      subst (λ (x : Letter). IsSentPlace x b (place_slot colour carries l (if b then Some y else None))) (sym run.0)
          (place_sent colour l carries b y),
      run_sent colour carries pi (next_place letter) ls fs bs run.1 (omega arith) (omega arith),
    )

superframe_sent : (colour : ℕ) (call : Call) (fields : ℕ → List ℕ) (n : ℕ) (bs : List Bool) → length bs ≤ 6
    → ArePlacesSent letter.A bs (superframe_slots colour (superframe_of call fields n bs))
superframe_sent colour call fields n bs le =
    run_sent colour (carried_by call.link_control call.carried.items n) call.pi letter.A (A ∷ B ∷ C ∷ D ∷ E ∷ F ∷ [])
    (six_fields (fields n)) bs (refl, (refl, (refl, (refl, (refl, (refl, tt)))))) le (omega arith)

-- places behind others
places_append : (letter : Letter) (bs more : List Bool) (slots rest : List SentSlot) → ArePlacesSent letter bs slots
    → ArePlacesSent (place_past letter bs) more rest → ArePlacesSent letter (bs ++ more) (slots ++ rest)
places_append letter [] more [] rest p q = q
places_append letter [] more (s ∷ slots) rest p q = absurd p
places_append letter (b ∷ bs) more [] rest p q = absurd p
places_append letter (b ∷ bs) more (s ∷ slots) rest p q = (p.0, places_append (next_place letter) bs more slots rest p.1 q)

-- the places of a call
pub voice_sent : (colour : ℕ) (call : Call) (fields : ℕ → List ℕ) (n : ℕ) (bs : List Bool)
    → ArePlacesSent letter.A bs (flat_map (superframe_slots colour) (superframes_from call fields n bs))
voice_sent colour call fields n [] = tt
voice_sent colour call fields n (a ∷ []) =
    let part : List Bool = a ∷ [] in
    places_append letter.A part [] (superframe_slots colour (superframe_of call fields n part)) []
    (superframe_sent colour call fields n part (omega arith)) tt
voice_sent colour call fields n (a ∷ b ∷ []) =
    let part : List Bool = a ∷ b ∷ [] in
    places_append letter.A part [] (superframe_slots colour (superframe_of call fields n part)) []
    (superframe_sent colour call fields n part (omega arith)) tt
voice_sent colour call fields n (a ∷ b ∷ c ∷ []) =
    let part : List Bool = a ∷ b ∷ c ∷ [] in
    places_append letter.A part [] (superframe_slots colour (superframe_of call fields n part)) []
    (superframe_sent colour call fields n part (omega arith)) tt
voice_sent colour call fields n (a ∷ b ∷ c ∷ d ∷ []) =
    let part : List Bool = a ∷ b ∷ c ∷ d ∷ [] in
    places_append letter.A part [] (superframe_slots colour (superframe_of call fields n part)) []
    (superframe_sent colour call fields n part (omega arith)) tt
voice_sent colour call fields n (a ∷ b ∷ c ∷ d ∷ e ∷ []) =
    let part : List Bool = a ∷ b ∷ c ∷ d ∷ e ∷ [] in
    places_append letter.A part [] (superframe_slots colour (superframe_of call fields n part)) []
    (superframe_sent colour call fields n part (omega arith)) tt
voice_sent colour call fields n (a ∷ b ∷ c ∷ d ∷ e ∷ f ∷ more) =
    let six : List Bool = a ∷ b ∷ c ∷ d ∷ e ∷ f ∷ [] in
    places_append letter.A six more (superframe_slots colour (superframe_of call fields n six))
    (flat_map (superframe_slots colour) (superframes_from call fields (suc n) more))
    (superframe_sent colour call fields n six (omega arith)) (voice_sent colour call fields (suc n) more)
