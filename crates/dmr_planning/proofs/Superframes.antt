-- The superframes of a call are well formed.
use Rattle.std.proofs.Common.{◌≡◌, ℕ, zero, suc, ◌%◌, ◌<◌, ◌≤◌, Bool, true, false, ◌&&◌, nat_lt, List, [], ◌∷◌, ◌++◌, map}
use Rattle.std.proofs.Common.{arith, refl, subst, sym, ap, ◌∙◌, Option, Some, None, is_some, get_or, All}
use Rattle.std.proofs.Common.{length, append-nil}
use Rattle.std.specs.List.{AllByRecursion}
use Rattle.dmr_codes.proofs.Flips.{distance_same}
use Rattle.dmr_embedded.specs.EmbeddedWord.{bits_of_fields, row}
use Rattle.dmr_hearing.specs.Fields.{IsCarrier, IsReceived}
use Rattle.dmr_link.specs.FullLc.{FitsFullLc}
use Rattle.dmr_link.specs.declared.full_lc.FullLc.{FullLc}
use Rattle.dmr_making.specs.Calls.{AreFieldsOf, carried_by, carried_lc, places_with, six_fields, superframe_of, superframes_from}
use Rattle.dmr_script.specs.Fits.{FitsCarried}
use Rattle.dmr_script.specs.Shapes.{is_unbroken, there_within}
use Rattle.dmr_script.specs.declared.call.Call.{Call}
use Rattle.dmr_script.specs.declared.call.Carried.{Carried}
use Rattle.dmr_script.specs.declared.call.Carried.TheVariants as carried
use Rattle.dmr_voice.specs.CallMeaning.{Ending, Silenced, Superframe, Terminated}
use Rattle.dmr_voice.specs.WellFormed.{EndsWell, IsReadableSuperframe, Unbroken, Within, presence}

-- 1. Which places are there.

there_all : (pi : Bool) (fields : List ℕ) (bs : List Bool) → length bs ≤ length fields
    → map is_some (places_with pi fields bs) ≡ bs
there_all pi [] [] le = refl
there_all pi [] (b ∷ bs) le = absurd (omega arith)
there_all pi (f ∷ fs) [] le = refl
there_all pi (f ∷ fs) (true ∷ bs) le = ap (λ (l : List Bool). true ∷ l) (there_all pi fs bs (omega arith))
there_all pi (f ∷ fs) (false ∷ bs) le = ap (λ (l : List Bool). false ∷ l) (there_all pi fs bs (omega arith))

part_there : (call : Call) (fields : ℕ → List ℕ) (n : ℕ) (bs : List Bool) → length bs ≤ 6
    → presence (superframe_of call fields n bs ∷ []) ≡ bs
part_there call fields n bs le =
    append-nil (map is_some (places_with call.pi (six_fields (fields n)) bs))
    ∙ there_all call.pi (six_fields (fields n)) bs (omega arith)

-- The superframes of a call have the places that the call has.
pub presence_is : (call : Call) (fields : ℕ → List ℕ) (n : ℕ) (bs : List Bool)
    → presence (superframes_from call fields n bs) ≡ bs
presence_is call fields n [] = refl
presence_is call fields n (a ∷ []) = part_there call fields n (a ∷ []) (omega arith)
presence_is call fields n (a ∷ b ∷ []) = part_there call fields n (a ∷ b ∷ []) (omega arith)
presence_is call fields n (a ∷ b ∷ c ∷ []) = part_there call fields n (a ∷ b ∷ c ∷ []) (omega arith)
presence_is call fields n (a ∷ b ∷ c ∷ d ∷ []) = part_there call fields n (a ∷ b ∷ c ∷ d ∷ []) (omega arith)
presence_is call fields n (a ∷ b ∷ c ∷ d ∷ e ∷ []) = part_there call fields n (a ∷ b ∷ c ∷ d ∷ e ∷ []) (omega arith)
presence_is call fields n (a ∷ b ∷ c ∷ d ∷ e ∷ f ∷ more) =
    let six : List Bool = a ∷ b ∷ c ∷ d ∷ e ∷ f ∷ [] in
    let rest : List Bool = presence (superframes_from call fields (suc n) more) in
    ap (λ (l : List Bool). l ++ rest) (there_all call.pi (six_fields (fields n)) six (omega arith))
    ∙ ap (λ (l : List Bool). six ++ l) (presence_is call fields (suc n) more)

-- 2. In a row.

-- Where a place is there within so many, one stands within them.
pub within_of : (n : ℕ) (bs : List Bool) → there_within n false bs ≡ true → Within n bs
within_of zero bs e = absurd (cc)
within_of (suc n) [] e = absurd (cc)
within_of (suc n) (true ∷ bs) e = tt
within_of (suc n) (false ∷ bs) e = within_of n bs e

within_ended : (n : ℕ) (bs : List Bool) → there_within n true bs ≡ true → Within n (bs ++ true ∷ [])
within_ended zero bs e = absurd (cc)
within_ended (suc n) [] e = tt
within_ended (suc n) (true ∷ bs) e = tt
within_ended (suc n) (false ∷ bs) e = within_ended n bs e

both_left : (a b : Bool) → a && b ≡ true → a ≡ true
both_left true b e = refl
both_left false b e = e

both_right : (a b : Bool) → a && b ≡ true → b ≡ true
both_right true b e = e
both_right false b e = absurd (cc)

pub unbroken_of : (bs : List Bool) → is_unbroken false bs ≡ true → Unbroken bs
unbroken_of [] e = tt
unbroken_of (true ∷ bs) e = unbroken_of bs e
unbroken_of (false ∷ bs) e = (
  within_of 5 bs (both_left (there_within 5 false bs) (is_unbroken false bs) e),
  unbroken_of bs (both_right (there_within 5 false bs) (is_unbroken false bs) e),
)

unbroken_ended : (bs : List Bool) → is_unbroken true bs ≡ true → Unbroken (bs ++ true ∷ [])
unbroken_ended [] e = tt
unbroken_ended (true ∷ bs) e = unbroken_ended bs e
unbroken_ended (false ∷ bs) e = (
  within_ended 5 bs (both_left (there_within 5 true bs) (is_unbroken true bs) e),
  unbroken_ended bs (both_right (there_within 5 true bs) (is_unbroken true bs) e),
)

unbroken_behind : (b : Bool) (bs : List Bool) → Unbroken (b ∷ bs) → Unbroken bs
unbroken_behind true bs u = u
unbroken_behind false bs u = u.1

-- 3. How they end.

all_six : (call : Call) (fields : ℕ → List ℕ) (n : ℕ) (bs : List Bool) → length bs % 6 ≡ 0
    → AllByRecursion (λ (s : Superframe). length s.places ≡ 6) (superframes_from call fields n bs)
all_six call fields n [] e = tt
all_six call fields n (a ∷ []) e = absurd (omega arith)
all_six call fields n (a ∷ b ∷ []) e = absurd (omega arith)
all_six call fields n (a ∷ b ∷ c ∷ []) e = absurd (omega arith)
all_six call fields n (a ∷ b ∷ c ∷ d ∷ []) e = absurd (omega arith)
all_six call fields n (a ∷ b ∷ c ∷ d ∷ x ∷ []) e = absurd (omega arith)
all_six call fields n (a ∷ b ∷ c ∷ d ∷ x ∷ f ∷ more) e = (refl, all_six call fields (suc n) more (omega arith))

-- there is one
HasOne : List Superframe → Type 0
HasOne [] = ⊥
HasOne (s ∷ ss) = Unit {0}

some_from : (call : Call) (fields : ℕ → List ℕ) (n : ℕ) (b : Bool) (bs : List Bool)
    → HasOne (superframes_from call fields n (b ∷ bs))
unfolding HasOne
some_from call fields n a [] = tt
some_from call fields n a (b ∷ []) = tt
some_from call fields n a (b ∷ c ∷ []) = tt
some_from call fields n a (b ∷ c ∷ d ∷ []) = tt
some_from call fields n a (b ∷ c ∷ d ∷ e ∷ []) = tt
some_from call fields n a (b ∷ c ∷ d ∷ e ∷ f ∷ more) = tt

six_more : (s : Superframe) (ss : List Superframe) → length s.places ≡ 6 → HasOne ss → EndsWell ss Silenced
    → Unbroken (presence (s ∷ ss)) → EndsWell (s ∷ ss) Silenced
unfolding HasOne
six_more s [] long some ends u = absurd some
six_more s (t ∷ ss) long some ends u = ((long, ends.0), u)

ends_silent : (call : Call) (fields : ℕ → List ℕ) (n : ℕ) (b : Bool) (bs : List Bool) → Unbroken (b ∷ bs)
    → EndsWell (superframes_from call fields n (b ∷ bs)) Silenced
ends_silent call fields n a [] u =
    ((omega arith, omega arith), subst Unbroken (sym (presence_is call fields n (a ∷ []))) u)
ends_silent call fields n a (b ∷ []) u =
    ((omega arith, omega arith), subst Unbroken (sym (presence_is call fields n (a ∷ b ∷ []))) u)
ends_silent call fields n a (b ∷ c ∷ []) u =
    ((omega arith, omega arith), subst Unbroken (sym (presence_is call fields n (a ∷ b ∷ c ∷ []))) u)
ends_silent call fields n a (b ∷ c ∷ d ∷ []) u =
    ((omega arith, omega arith), subst Unbroken (sym (presence_is call fields n (a ∷ b ∷ c ∷ d ∷ []))) u)
ends_silent call fields n a (b ∷ c ∷ d ∷ e ∷ []) u =
    ((omega arith, omega arith), subst Unbroken (sym (presence_is call fields n (a ∷ b ∷ c ∷ d ∷ e ∷ []))) u)
ends_silent call fields n a (b ∷ c ∷ d ∷ e ∷ f ∷ []) u =
    ((omega arith, omega arith), subst Unbroken (sym (presence_is call fields n (a ∷ b ∷ c ∷ d ∷ e ∷ f ∷ []))) u)
ends_silent call fields n a (b ∷ c ∷ d ∷ e ∷ f ∷ g ∷ more) u =
    let v5 : Unbroken (b ∷ c ∷ d ∷ e ∷ f ∷ g ∷ more) = unbroken_behind a (b ∷ c ∷ d ∷ e ∷ f ∷ g ∷ more) u in
    let v4 : Unbroken (c ∷ d ∷ e ∷ f ∷ g ∷ more) = unbroken_behind b (c ∷ d ∷ e ∷ f ∷ g ∷ more) v5 in
    let v3 : Unbroken (d ∷ e ∷ f ∷ g ∷ more) = unbroken_behind c (d ∷ e ∷ f ∷ g ∷ more) v4 in
    let v2 : Unbroken (e ∷ f ∷ g ∷ more) = unbroken_behind d (e ∷ f ∷ g ∷ more) v3 in
    let v1 : Unbroken (f ∷ g ∷ more) = unbroken_behind e (f ∷ g ∷ more) v2 in
    let v0 : Unbroken (g ∷ more) = unbroken_behind f (g ∷ more) v1 in
    six_more (superframe_of call fields n (a ∷ b ∷ c ∷ d ∷ e ∷ f ∷ [])) (superframes_from call fields (suc n) (g ∷ more)) refl
    (some_from call fields (suc n) g more) (ends_silent call fields (suc n) g more v0)
    (subst Unbroken (sym (presence_is call fields n (a ∷ b ∷ c ∷ d ∷ e ∷ f ∷ g ∷ more))) u)

-- 4. What they carry.

-- fields that weren't damaged are received
received : (lc : FullLc) (fields : List ℕ) → FitsFullLc lc → IsCarrier lc fields → IsReceived lc fields
received lc fields fit carrier = (
  fit,
  (fields, carrier, λ r lt. let none = distance_same (row (bits_of_fields fields) r) in omega (arith, none)),
)

four_fields : (fields : List ℕ) → length fields ≡ 4
    → get_or fields 0 0 ∷ get_or fields 1 0 ∷ get_or fields 2 0 ∷ get_or fields 3 0 ∷ [] ≡ fields
four_fields [] e = absurd (omega arith)
four_fields (a ∷ []) e = absurd (omega arith)
four_fields (a ∷ b ∷ []) e = absurd (omega arith)
four_fields (a ∷ b ∷ c ∷ []) e = absurd (omega arith)
four_fields (a ∷ b ∷ c ∷ d ∷ []) e = refl
four_fields (a ∷ b ∷ c ∷ d ∷ x ∷ more) e = absurd (omega arith)

-- what a superframe carries fits
abbrev FitsCarriedLc : Option FullLc → Type 0
FitsCarriedLc None = Unit {0}
FitsCarriedLc (Some lc) = FitsFullLc lc

readable_with : (carries : Option FullLc) (fields : List ℕ) (pi : Bool) (bs : List Bool) → AreFieldsOf carries fields
    → FitsCarriedLc carries
    → IsReadableSuperframe (record { carries = carries; places = places_with pi (six_fields fields) bs })
readable_with None fields pi bs are fit = tt
readable_with (Some lc) fields pi [] are fit = λ e. absurd (cc)
readable_with (Some lc) fields pi (a ∷ []) are fit = λ e. absurd (cc)
readable_with (Some lc) fields pi (a ∷ false ∷ bs) are fit = λ e. absurd (cc)
readable_with (Some lc) fields pi (a ∷ true ∷ []) are fit = λ e. absurd (cc)
readable_with (Some lc) fields pi (a ∷ true ∷ false ∷ bs) are fit = λ e. absurd (cc)
readable_with (Some lc) fields pi (a ∷ true ∷ true ∷ []) are fit = λ e. absurd (cc)
readable_with (Some lc) fields pi (a ∷ true ∷ true ∷ false ∷ bs) are fit = λ e. absurd (cc)
readable_with (Some lc) fields pi (a ∷ true ∷ true ∷ true ∷ []) are fit = λ e. absurd (cc)
readable_with (Some lc) fields pi (a ∷ true ∷ true ∷ true ∷ false ∷ bs) are fit = λ e. absurd (cc)
readable_with (Some lc) fields pi (a ∷ true ∷ true ∷ true ∷ true ∷ bs) are fit = λ e.
    subst (IsReceived lc) (sym (four_fields fields are.four)) (received lc fields fit are)

-- what a call carries fits
carried_fits : (own : FullLc) (c : Carried) → FitsFullLc own → FitsCarried c → FitsCarriedLc (carried_lc own c)
carried_fits own carried.Own f h = f
carried_fits own carried.Nothing f h = tt
carried_fits own (carried.LinkControl lc) f h = h

carried_by_fits : (own : FullLc) (cs : List Carried) (n : ℕ) → FitsFullLc own → All FitsCarried cs
    → FitsCarriedLc (carried_by own cs n)
carried_by_fits own [] n f all = f
carried_by_fits own (c ∷ cs) n f all =
    carried_fits own (get_or (c ∷ cs) (n % length (c ∷ cs)) c) f (all (n % length (c ∷ cs)) c (omega arith))

all_readable : (call : Call) (fields : ℕ → List ℕ) (n : ℕ) (bs : List Bool)
    → ((k : ℕ) → AreFieldsOf (carried_by call.link_control call.carried.items k) (fields k))
    → FitsFullLc call.link_control → All FitsCarried call.carried.items
    → AllByRecursion IsReadableSuperframe (superframes_from call fields n bs)
all_readable call fields n bs are own all = by n bs
  where
    one : (n : ℕ) (bs : List Bool) → IsReadableSuperframe (superframe_of call fields n bs)
    one n bs =
        readable_with (carried_by call.link_control call.carried.items n) (fields n) call.pi bs (are n)
        (carried_by_fits call.link_control call.carried.items n own all)

    by : (n : ℕ) (bs : List Bool) → AllByRecursion IsReadableSuperframe (superframes_from call fields n bs)
    by n [] = tt
    by n (a ∷ []) = (one n (a ∷ []), tt)
    by n (a ∷ b ∷ []) = (one n (a ∷ b ∷ []), tt)
    by n (a ∷ b ∷ c ∷ []) = (one n (a ∷ b ∷ c ∷ []), tt)
    by n (a ∷ b ∷ c ∷ d ∷ []) = (one n (a ∷ b ∷ c ∷ d ∷ []), tt)
    by n (a ∷ b ∷ c ∷ d ∷ e ∷ []) = (one n (a ∷ b ∷ c ∷ d ∷ e ∷ []), tt)
    by n (a ∷ b ∷ c ∷ d ∷ e ∷ f ∷ more) = (one n (a ∷ b ∷ c ∷ d ∷ e ∷ f ∷ []), by (suc n) more)

-- 5. All of it.

-- Each superframe of a call whose link controls fit is readable.
pub all_of_call : (call : Call) (fields : ℕ → List ℕ) (bs : List Bool)
    → ((k : ℕ) → AreFieldsOf (carried_by call.link_control call.carried.items k) (fields k))
    → FitsFullLc call.link_control → All FitsCarried call.carried.items
    → AllByRecursion IsReadableSuperframe (superframes_from call fields 0 bs)
all_of_call call fields bs are own all = all_readable call fields 0 bs are own all

-- by so many terminators a call ends
abbrev pub ending_by : ℕ → List Bool → Ending
ending_by zero information = Silenced
ending_by (suc more) information = Terminated information more

positive : (n : ℕ) → nat_lt 0 (suc n) ≡ true
positive n = grind arith

-- by so many it ends well
pub ends_well : (call : Call) (fields : ℕ → List ℕ) (b : Bool) (bs : List Bool) (terminators : ℕ) (information : List Bool)
    → is_unbroken (nat_lt 0 terminators) (b ∷ bs) ≡ true → (0 < terminators → length (b ∷ bs) % 6 ≡ 0)
    → EndsWell (superframes_from call fields 0 (b ∷ bs)) (ending_by terminators information)
ends_well call fields b bs zero information u whole = ends_silent call fields 0 b bs (unbroken_of (b ∷ bs) u)
ends_well call fields b bs (suc more) information u whole = (
  all_six call fields 0 (b ∷ bs) (whole (omega arith)),
  subst (λ (l : List Bool). Unbroken (l ++ true ∷ [])) (sym (presence_is call fields 0 (b ∷ bs)))
      (unbroken_ended (b ∷ bs) (subst (λ (ended : Bool). is_unbroken ended (b ∷ bs) ≡ true) (positive more) u)),
)
