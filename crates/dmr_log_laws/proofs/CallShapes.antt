-- The shape of each call: what a log is told to repeat for it, frame by frame.
use Rattle.std.proofs.Common.{◌≡◌, ℕ, zero, suc, ◌+◌, ◌≤◌, Bool, true, false, cond, not, List, [], ◌∷◌, ◌++◌, length}
use Rattle.std.proofs.Common.{map}
use Rattle.std.proofs.Common.{replicate, count_by, Option, Some, None, refl, sym, ap, ◌∙◌, subst, arith, append-nil, inl}
use Rattle.std.proofs.Common.{inr}
use Rattle.std.proofs.Common.{is_some, IfSome, if◌then◌else◌, zip, drop}
use Rattle.std.specs.List.{AllByRecursion, AllZip}
use Rattle.std.specs.Option.{option_or}
use Rattle.dmr_hearing.specs.Slots.{Silent, CutOff}
use Rattle.dmr_link.specs.declared.full_lc.FullLc.{FullLc}
use Rattle.dmr_log.specs.Transmissions.{begun_subject, is_terminated, plus_one}
use Rattle.dmr_log.specs.declared.repeated.Repeated.{Repeated}
use Rattle.dmr_log.specs.declared.repeated.Repeated.TheVariants as repeated
use Rattle.dmr_log.specs.declared.transmission.Call.{Call}
use Rattle.dmr_log.specs.declared.transmission.CallStage.{CallStage}
use Rattle.dmr_log.specs.declared.transmission.CallStage.TheVariants as stage
use Rattle.dmr_log.specs.declared.transmission.Subject.TheVariants as subject
use Rattle.dmr_log_laws.proofs.Growing.{BeginsCall, InOrder, IsCallBehind, filled_in, first_told, places_in, stage_behind}
use Rattle.dmr_log_laws.proofs.Shapes.{AreShort, AreShownAs, all_headers_shown, ending_repeats, ending_shown, gap_shown}
use Rattle.dmr_log_laws.proofs.Shapes.{header_repeats, join_shown, known_behind, lc_told, place_repeats, places_shown, unsaid_shown}
use Rattle.dmr_log_laws.proofs.Slots.{counted_cons}
use Rattle.dmr_log_laws.specs.CallEntries.{absent_count, call_due, first_meant, last_stage, place_count, slots_before}
use Rattle.dmr_voice.specs.CallMeaning.{Cell, Ending, Lead, HeaderAgain, PiHeader, Present, Superframe, Terminated, Silenced}
use Rattle.dmr_voice.specs.CallMeaning.{Transmission}
use Rattle.dmr_voice.specs.CallMeaning.{VoiceCall, HeadersAlone, LateCall, Controls, DataTry, ForeignParts, cells, data_cell}
use Rattle.dmr_voice.specs.CallMeaning.{ending_cells, header_cell, is_complete, lead_cell, place_cell, superframe_cells, unsaid}
use Rattle.dmr_voice.specs.WellFormed.{EndsWell, IsTransmission, Unbroken, Within, presence}
use Rattle.dmr_voice.specs.declared.place.Place.{Place}
use Rattle.dmr_voice.specs.declared.place.Place.TheVariants.{A, B, C, D, E, F}
use Rattle.dmr_voice.specs.declared.said.Role.{Role}
use Rattle.dmr_voice.specs.declared.said.Role.TheVariants as role

-- 1. What a call is shown by.

-- whether a cell may be silent
abbrev pub IsLoud : Cell → Bool → Type 0
IsLoud c loud = c.sent ≡ Silent → loud ≡ false

-- the last of these is true, and there is one
abbrev pub EndsTrue : List Bool → Type 0
EndsTrue [] = ⊥
EndsTrue (b ∷ []) = b ≡ true
EndsTrue (b ∷ c ∷ bs) = EndsTrue (c ∷ bs)

-- What shows a call: so many slots that repeat nothing, one that begins it, and others in order.
pub record IsCallShape (colour : ℕ) (t : Transmission) (call : Call) : Type 0 where
  pub begin : Repeated
  pub more : List Repeated
  pub shown : AreShownAs colour (cells colour t) (replicate (slots_before t) repeated.Nothing ++ begin ∷ more)
  pub louds : List Bool
  pub loud : AllZip IsLoud (cells colour t) louds
  pub ends : EndsTrue louds
  pub first : Call
  pub begins : BeginsCall begin
  pub begun : begun_subject begin ≡ Some (subject.Call first)
  pub order : InOrder first.stage more
  pub few : (first.places ≤ 1) × (first.filled ≤ 1)
  pub behind : (end : Call) → IsCallBehind first more end → end ≡ call

-- 2. Lists that stand in front of others.

-- headers alone
abbrev AreHeaders : List Repeated → Type 0
AreHeaders [] = Unit {0}
AreHeaders (repeated.CallHeader lc ∷ rs) = AreHeaders rs
AreHeaders (r ∷ rs) = ⊥

-- what stands behind headers counts as it did
record IsBehindHeaders (xs bs : List Repeated) : Type 0 where
  places : places_in (xs ++ bs) ≡ places_in bs
  filled : filled_in (xs ++ bs) ≡ filled_in bs
  going : stage_behind stage.Headers (xs ++ bs) ≡ stage_behind stage.Headers bs
  order : InOrder stage.Headers bs → InOrder stage.Headers (xs ++ bs)

behind_headers : (xs bs : List Repeated) → AreHeaders xs → IsBehindHeaders xs bs
behind_headers [] bs are = record { places = refl; filled = refl; going = refl; order = λ o. o }
behind_headers (repeated.Nothing ∷ xs) bs are = absurd are
behind_headers (repeated.CallHeader lc ∷ xs) bs are =
    let more = behind_headers xs bs are in
    record { places = more.places; filled = more.filled; going = more.going; order = λ o. (refl, more.order o) }
behind_headers (repeated.Place lc f ∷ xs) bs are = absurd are
behind_headers (repeated.Terminator lc ∷ xs) bs are = absurd are
behind_headers (repeated.DataHeader head ∷ xs) bs are = absurd are
behind_headers (repeated.Block type ∷ xs) bs are = absurd are
behind_headers (repeated.Control kind ∷ xs) bs are = absurd are

leads_are : (lc : FullLc) (leads : List Lead) → AreHeaders (header_repeats lc leads)
leads_are lc [] = tt
leads_are lc (lead ∷ leads) = leads_are lc leads

gap_is : (lc : FullLc) (n : ℕ) → AreHeaders (replicate n (repeated.CallHeader (Some lc)))
gap_is lc zero = tt
gap_is lc (suc n) = gap_is lc n

-- places alone
abbrev ArePlaces : List Repeated → Type 0
ArePlaces [] = Unit {0}
ArePlaces (repeated.Place lc f ∷ rs) = ArePlaces rs
ArePlaces (r ∷ rs) = ⊥

record IsBehindPlaces (xs bs : List Repeated) : Type 0 where
  places : places_in (xs ++ bs) ≡ length xs + places_in bs
  filled : filled_in (xs ++ bs) ≡ filled_in xs + filled_in bs
  going : stage_behind stage.Places (xs ++ bs) ≡ stage_behind stage.Places bs
  order : (s : CallStage) → is_terminated s ≡ false → ((t : CallStage) → is_terminated t ≡ false → InOrder t bs)
      → InOrder s (xs ++ bs)

behind_places : (xs bs : List Repeated) → ArePlaces xs → IsBehindPlaces xs bs
behind_places [] bs are =
    record { places = omega arith; filled = omega arith; going = refl; order = λ s going ordered. ordered s going }
behind_places (repeated.Nothing ∷ xs) bs are = absurd are
behind_places (repeated.CallHeader lc ∷ xs) bs are = absurd are
behind_places (repeated.Place lc f ∷ xs) bs are =
    let more = behind_places xs bs are in
    let p = more.places in
    let q = more.filled in
    record {
      places = omega (arith, p);
      filled = omega (arith, q);
      going = more.going;
      order = λ s going ordered. (going, more.order stage.Places refl ordered);
    }
behind_places (repeated.Terminator lc ∷ xs) bs are = absurd are
behind_places (repeated.DataHeader head ∷ xs) bs are = absurd are
behind_places (repeated.Block type ∷ xs) bs are = absurd are
behind_places (repeated.Control kind ∷ xs) bs are = absurd are

-- what terminators count
record AreEndings (lc : FullLc) (ending : Ending) : Type 0 where
  places : places_in (ending_repeats lc ending) ≡ 0
  filled : filled_in (ending_repeats lc ending) ≡ 0
  going : (s : CallStage) → stage_behind s (ending_repeats lc ending) ≡ last_stage lc ending s
  order : (s : CallStage) → is_terminated s ≡ false → InOrder s (ending_repeats lc ending)

terminators_count : (lc : FullLc) (n : ℕ) → (places_in (replicate n (repeated.Terminator (Some lc))) ≡ 0)
    × (filled_in (replicate n (repeated.Terminator (Some lc))) ≡ 0)
    × (stage_behind (stage.Terminated (Some lc)) (replicate n (repeated.Terminator (Some lc))) ≡ stage.Terminated (Some lc))
    × InOrder (stage.Terminated (Some lc)) (replicate n (repeated.Terminator (Some lc)))
terminators_count lc zero = (refl, refl, refl, tt)
terminators_count lc (suc n) =
    let more = terminators_count lc n in (more.0, more.1, more.2, (inr refl, more.3))

endings_are : (lc : FullLc) (ending : Ending) → AreEndings lc ending
endings_are lc Silenced = record { places = refl; filled = refl; going = λ s. refl; order = λ s going. tt }
endings_are lc (Terminated information more) =
    let rest = terminators_count lc more in
    record {
      places = rest.0;
      filled = rest.1;
      going = λ s. rest.2;
      order = λ s going. (inl going, rest.3);
    }

-- 3. The places of superframes.

some_are_places : (known : Option FullLc) (ys : List (Option Present)) (bs : List Repeated) → ArePlaces bs
    → ArePlaces (map (λ (y : Option Present). repeated.Place known (not (is_some y))) ys ++ bs)
some_are_places known [] bs are = are
some_are_places known (y ∷ ys) bs are = some_are_places known ys bs are

places_are : (call : Option FullLc) (ss : List Superframe) → ArePlaces (place_repeats call ss)
places_are call [] = tt
places_are call (s ∷ ss) = some_are_places (known_behind call s) s.places _ (places_are (known_behind call s) ss)

some_long : (known : Option FullLc) (ys : List (Option Present)) (rs : List Repeated) (bs : List Bool) → length rs ≡ length bs
    → length (map (λ (y : Option Present). repeated.Place known (not (is_some y))) ys ++ rs) ≡ length (map is_some ys ++ bs)
some_long known [] rs bs e = e
some_long known (y ∷ ys) rs bs e = let more = some_long known ys rs bs e in omega (arith, more)

places_long : (call : Option FullLc) (ss : List Superframe) → length (place_repeats call ss) ≡ place_count ss
places_long call [] = refl
places_long call (s ∷ ss) =
    some_long (known_behind call s) s.places (place_repeats (known_behind call s) ss) (presence ss)
    (places_long (known_behind call s) ss)

some_filled : (known : Option FullLc) (ys : List (Option Present)) (rs : List Repeated) (bs : List Bool)
    → filled_in rs ≡ count_by not bs
    → filled_in (map (λ (y : Option Present). repeated.Place known (not (is_some y))) ys ++ rs)
    ≡ count_by not (map is_some ys ++ bs)
some_filled known [] rs bs e = e
some_filled known (y ∷ ys) rs bs e =
    let more = some_filled known ys rs bs e in
    ap (λ (n : ℕ). cond (not (is_some y)) 1 0 + n) more ∙ sym (counted_cons not (is_some y) (map is_some ys ++ bs))

places_filled : (call : Option FullLc) (ss : List Superframe) → filled_in (place_repeats call ss) ≡ absent_count ss
places_filled call [] = refl
places_filled call (s ∷ ss) =
    some_filled (known_behind call s) s.places (place_repeats (known_behind call s) ss) (presence ss)
    (places_filled (known_behind call s) ss)

within_some : (bs : List Bool) → Within 1 bs → 1 ≤ length bs
within_some [] w = absurd w
within_some (b ∷ bs) w = omega arith

-- superframes that end well have at most six places each
short_sixes : (ss : List Superframe) → AllByRecursion (λ (s : Superframe). length s.places ≡ 6) ss → AreShort ss
short_sixes [] all = tt
short_sixes (s ∷ ss) all = let six = all.0 in (omega (arith, six), short_sixes ss all.1)

rest_unbroken : (ys : List (Option Present)) (bs : List Bool) → Unbroken (map is_some ys ++ bs) → Unbroken bs
rest_unbroken [] bs u = u
rest_unbroken (None ∷ ys) bs u = rest_unbroken ys bs u.1
rest_unbroken (Some y ∷ ys) bs u = rest_unbroken ys bs u

short_silenced : (ss : List Superframe) → EndsWell ss Silenced → AreShort ss
short_silenced [] well = tt
short_silenced (s ∷ []) well = (well.0.1, tt)
short_silenced (s ∷ t ∷ ss) well =
    let six = well.0.0 in
    (omega (arith, six), short_silenced (t ∷ ss) (well.0.1, rest_unbroken s.places (presence (t ∷ ss)) well.1))

short_by : (ss : List Superframe) (ending : Ending) → EndsWell ss ending → AreShort ss
short_by ss (Terminated information more) well = short_sixes ss well.0
short_by ss Silenced well = short_silenced ss well

-- 4. Which slots are not silent.

zip_join : {X Y : Type 0} (R : X → Y → Type 0) (xs bs : List X) (es fs : List Y) → AllZip R xs es → AllZip R bs fs
    → AllZip R (xs ++ bs) (es ++ fs)
zip_join R [] bs [] fs p q = q
zip_join R [] bs (e ∷ es) fs p q = absurd p
zip_join R (a ∷ xs) bs [] fs p q = absurd p
zip_join R (a ∷ xs) bs (e ∷ es) fs p q = (p.0, zip_join R xs bs es fs p.1 q)

abbrev ending_louds : Ending → List Bool
ending_louds Silenced = []
ending_louds (Terminated information more) = replicate (suc more) true

header_loud : (lc : FullLc) (header : List Bool) → IsLoud (header_cell lc header) true
header_loud lc header e = cc

leads_loud : (lc : FullLc) (header : List Bool) (leads : List Lead)
    → AllZip IsLoud (map (lead_cell lc header) leads) (map (λ (lead : Lead). true) leads)
leads_loud lc header [] = tt
leads_loud lc header (HeaderAgain ∷ leads) = (λ e. cc, leads_loud lc header leads)
leads_loud lc header (PiHeader information ∷ leads) = (λ e. cc, leads_loud lc header leads)

gap_quiet : (lc : FullLc) (header : List Bool) (n : ℕ)
    → AllZip IsLoud (replicate n (record (header_cell lc header) { sent = Silent })) (replicate n false)
gap_quiet lc header zero = tt
gap_quiet lc header (suc n) = (λ e. refl, gap_quiet lc header n)

terminators_loud : (lc : FullLc) (information : List Bool) (n : ℕ)
    → AllZip IsLoud (replicate n (data_cell 2 information (Some lc) (role.Call (Some lc)))) (replicate n true)
terminators_loud lc information zero = tt
terminators_loud lc information (suc n) = (λ e. cc, terminators_loud lc information n)

endings_loud : (lc : FullLc) (ending : Ending) → AllZip IsLoud (ending_cells lc ending) (ending_louds ending)
endings_loud lc Silenced = tt
endings_loud lc (Terminated information more) = terminators_loud lc information (suc more)

place_loud : (colour : ℕ) (place : Place) (carries lc : Option FullLc) (role : Role) (y : Option Present)
    → IsLoud (place_cell colour place carries lc role y) (is_some y)
place_loud colour place carries lc role None e = refl
place_loud colour A carries lc role (Some y) e = cc
place_loud colour B carries lc role (Some y) e = cc
place_loud colour C carries lc role (Some y) e = cc
place_loud colour D carries lc role (Some y) e = cc
place_loud colour E carries lc role (Some y) e = cc
place_loud colour F carries lc role (Some y) e = cc

some_loud : (colour : ℕ) (carries lc : Option FullLc) (role : Role) (ps : List Place) (ys : List (Option Present))
    → length ys ≤ length ps
    → AllZip IsLoud (map (λ (p : Place × Option Present). place_cell colour p.0 carries lc role p.1) (zip ps ys)) (map is_some ys)
some_loud colour carries lc role [] [] few = tt
some_loud colour carries lc role (p ∷ ps) [] few = tt
some_loud colour carries lc role [] (y ∷ ys) few = absurd (omega (arith, few))
some_loud colour carries lc role (p ∷ ps) (y ∷ ys) few =
    (place_loud colour p carries lc role y, some_loud colour carries lc role ps ys (omega (arith, few)))

places_loud : (colour : ℕ) (call : Option FullLc) (ss : List Superframe) → AreShort ss
    → AllZip IsLoud (superframe_cells colour call ss) (presence ss)
places_loud colour call [] short = tt
places_loud colour call (s ∷ ss) short =
    let own : Option FullLc = if is_complete 4 (drop 1 s.places) then s.carries else None in
    let known = known_behind call s in
    zip_join IsLoud _ _ _ _
    (some_loud colour s.carries (option_or own known) (role.Call known) (A ∷ B ∷ C ∷ D ∷ E ∷ F ∷ []) s.places short.0)
    (places_loud colour known ss short.1)

ends_append : (xs bs : List Bool) → EndsTrue bs → EndsTrue (xs ++ bs)
ends_append [] bs ends = ends
ends_append (a ∷ []) [] ends = absurd ends
ends_append (a ∷ []) (b ∷ bs) ends = ends
ends_append (a ∷ c ∷ xs) bs ends = ends_append (c ∷ xs) bs ends

unbroken_ends : (bs : List Bool) → Unbroken bs → 1 ≤ length bs → EndsTrue bs
unbroken_ends [] u some = absurd (omega (arith, some))
unbroken_ends (true ∷ []) u some = refl
unbroken_ends (false ∷ []) u some = absurd u.0
unbroken_ends (true ∷ c ∷ bs) u some = unbroken_ends (c ∷ bs) u (omega arith)
unbroken_ends (false ∷ c ∷ bs) u some = unbroken_ends (c ∷ bs) u.1 (omega arith)

all_true : (n : ℕ) → EndsTrue (replicate (suc n) true)
all_true zero = refl
all_true (suc n) = all_true n

ends_so : (ss : List Superframe) (ending : Ending) → EndsWell ss ending → 1 ≤ place_count ss
    → EndsTrue (presence ss ++ ending_louds ending)
ends_so ss (Terminated information more) well some = ends_append (presence ss) (replicate (suc more) true) (all_true more)
ends_so ss Silenced well some =
    subst EndsTrue (sym (append-nil (presence ss))) (unbroken_ends (presence ss) well.1 some)

leads_end : (leads : List Lead) → EndsTrue (true ∷ map (λ (lead : Lead). true) leads)
leads_end [] = refl
leads_end (lead ∷ leads) = leads_end leads

headers_end : (leads : List Lead) (ending : Ending) → EndsTrue ((true ∷ map (λ (lead : Lead). true) leads) ++ ending_louds ending)
headers_end leads (Terminated information more) =
    ends_append (true ∷ map (λ (lead : Lead). true) leads) (replicate (suc more) true) (all_true more)
headers_end leads Silenced = subst EndsTrue (sym (append-nil (true ∷ map (λ (lead : Lead). true) leads))) (leads_end leads)

-- 5. Each kind of call.

call_fields : (s s' : CallStage) (l l' : Option FullLc) (i i' : Bool) (p p' f f' : ℕ) → s ≡ s' → l ≡ l' → i ≡ i' → p ≡ p'
    → f ≡ f'
    → ◌≡◌ {A = Call} (record { stage = s; link_control = l; is_late = i; places = p; filled = f })
    (record { stage = s'; link_control = l'; is_late = i'; places = p'; filled = f' })
call_fields s s' l l' i i' p p' f f' a b c d e = cc

call_by : (a b : Call) → a.stage ≡ b.stage → a.link_control ≡ b.link_control → a.is_late ≡ b.is_late → a.places ≡ b.places
    → a.filled ≡ b.filled → a ≡ b
call_by a b c d e g h =
    call_fields a.stage b.stage a.link_control b.link_control a.is_late b.is_late a.places b.places a.filled b.filled c d e g h

-- a call of which headers came
abbrev behind_header : FullLc → Call
behind_header lc = record { stage = stage.Headers; link_control = Some lc; is_late = false; places = 0; filled = 0 }

headers_shape : (colour : ℕ) (lc : FullLc) (header : List Bool) (leads : List Lead) (ending : Ending)
    → IfSome (call_due colour (HeadersAlone lc header leads ending))
    (λ call. IsCallShape colour (HeadersAlone lc header leads ending) call)
headers_shape colour lc header leads ending =
    let ends = endings_are lc ending in
    let behind = behind_headers (header_repeats lc leads) (ending_repeats lc ending) (leads_are lc leads) in
    let headers = all_headers_shown colour lc header leads in
    record {
      begin = repeated.CallHeader (Some lc);
      more = header_repeats lc leads ++ ending_repeats lc ending;
      shown = (headers.0, join_shown colour _ _ _ _ headers.1 (ending_shown colour lc ending));
      louds = true ∷ (map (λ (lead : Lead). true) leads ++ ending_louds ending);
      loud = (header_loud lc header, zip_join IsLoud _ _ _ _ (leads_loud lc header leads) (endings_loud lc ending));
      ends = headers_end leads ending;
      first = behind_header lc;
      begins = tt;
      begun = refl;
      order = behind.order (ends.order stage.Headers refl);
      few = (omega arith, omega arith);
      behind = λ end b.
          let places = b.places in
          let filled = b.filled in
          let p = behind.places in
          let q = behind.filled in
          let r = ends.places in
          let s = ends.filled in
          call_by end _ (b.stage ∙ behind.going ∙ ends.going stage.Headers) b.link_control b.late
          (omega (arith, places, p, r)) (omega (arith, filled, q, s));
    }

-- what stands behind the first header of a call with voice
abbrev voice_repeats : FullLc → List Lead → ℕ → List Superframe → Ending → List Repeated
voice_repeats lc leads gap ss ending =
    header_repeats lc leads
    ++ (replicate gap (repeated.CallHeader (Some lc)) ++ (place_repeats (Some lc) ss ++ ending_repeats lc ending))

-- places in front of others bring a call to its voice
at_places : (xs bs : List Repeated) → ArePlaces xs → 1 ≤ length xs
    → stage_behind stage.Headers (xs ++ bs) ≡ stage_behind stage.Places bs
at_places [] bs are some = absurd (omega (arith, some))
at_places (repeated.Nothing ∷ xs) bs are some = absurd are
at_places (repeated.CallHeader lc ∷ xs) bs are some = absurd are
at_places (repeated.Place lc f ∷ xs) bs are some = (behind_places xs bs are).going
at_places (repeated.Terminator lc ∷ xs) bs are some = absurd are
at_places (repeated.DataHeader head ∷ xs) bs are some = absurd are
at_places (repeated.Block type ∷ xs) bs are some = absurd are
at_places (repeated.Control kind ∷ xs) bs are some = absurd are

voice_shape : (colour : ℕ) (lc : FullLc) (header : List Bool) (leads : List Lead) (gap : ℕ) (ss : List Superframe)
    (ending : Ending) → IsTransmission colour (VoiceCall lc header leads gap ss ending)
    → IfSome (call_due colour (VoiceCall lc header leads gap ss ending))
    (λ call. IsCallShape colour (VoiceCall lc header leads gap ss ending) call)
voice_shape colour lc header leads gap ss ending well =
    let some = within_some (presence ss) well.1 in
    let short = short_by ss ending well.3 in
    let ends = endings_are lc ending in
    let places = place_repeats (Some lc) ss in
    let are = places_are (Some lc) ss in
    let by_places = behind_places places (ending_repeats lc ending) are in
    let by_gap = behind_headers (replicate gap (repeated.CallHeader (Some lc))) (places ++ ending_repeats lc ending)
    (gap_is lc gap) in
    let by_leads = behind_headers (header_repeats lc leads)
    (replicate gap (repeated.CallHeader (Some lc)) ++ (places ++ ending_repeats lc ending)) (leads_are lc leads) in
    let long = places_long (Some lc) ss in
    let absent = places_filled (Some lc) ss in
    let headers = all_headers_shown colour lc header leads in
    record {
      begin = repeated.CallHeader (Some lc);
      more = voice_repeats lc leads gap ss ending;
      shown = (
        headers.0,
        join_shown colour _ _ _ _ headers.1 (join_shown colour _ _ _ _ (gap_shown colour lc header gap)
            (join_shown colour _ _ _ _ (places_shown colour (Some lc) ss short) (ending_shown colour lc ending))),
      );
      louds = true ∷ (map (λ (lead : Lead). true) leads ++ (replicate gap false ++ (presence ss ++ ending_louds ending)));
      loud = (
        header_loud lc header,
        zip_join IsLoud _ _ _ _ (leads_loud lc header leads) (zip_join IsLoud _ _ _ _ (gap_quiet lc header gap)
            (zip_join IsLoud _ _ _ _ (places_loud colour (Some lc) ss short) (endings_loud lc ending))),
      );
      ends = ends_append (true ∷ map (λ (lead : Lead). true) leads) _
          (ends_append (replicate gap false) _ (ends_so ss ending well.3 some));
      first = behind_header lc;
      begins = tt;
      begun = refl;
      order = by_leads.order (by_gap.order (by_places.order stage.Headers refl (λ t going. ends.order t going)));
      few = (omega arith, omega arith);
      behind = λ end b.
          let p = b.places ∙ ap (λ (n : ℕ). 0 + n) (by_leads.places ∙ by_gap.places ∙ by_places.places) in
          let q = b.filled ∙ ap (λ (n : ℕ). 0 + n) (by_leads.filled ∙ by_gap.filled ∙ by_places.filled) in
          let r = ends.places in
          let s = ends.filled in
          call_by end _
          (b.stage ∙ by_leads.going ∙ by_gap.going ∙ at_places places (ending_repeats lc ending) are (omega (arith, long, some))
          ∙ ends.going stage.Places)
          b.link_control b.late (omega (arith, p, r, long)) (omega (arith, q, s, absent));
    }

-- 6. Late calls.

-- the first of some places
record IsFirstPlace (xs : List Repeated) : Type 0 where
  known : Option FullLc
  is_filled : Bool
  rest : List Repeated
  is : xs ≡ repeated.Place known is_filled ∷ rest
  are : ArePlaces rest

first_place : (xs : List Repeated) → ArePlaces xs → 1 ≤ length xs → IsFirstPlace xs
first_place [] are some = absurd (omega (arith, some))
first_place (repeated.Nothing ∷ xs) are some = absurd are
first_place (repeated.CallHeader lc ∷ xs) are some = absurd are
first_place (repeated.Place lc f ∷ xs) are some = record { known = lc; is_filled = f; rest = xs; is = refl; are = are }
first_place (repeated.Terminator lc ∷ xs) are some = absurd are
first_place (repeated.DataHeader head ∷ xs) are some = absurd are
first_place (repeated.Block type ∷ xs) are some = absurd are
first_place (repeated.Control kind ∷ xs) are some = absurd are

tail_shown : (colour : ℕ) (tail : List Bool)
    → AreShownAs colour (map (λ (there : Bool). unsaid (if there then CutOff else Silent)) tail)
    (replicate (length tail) repeated.Nothing)
tail_shown colour [] = tt
tail_shown colour (there ∷ tail) = (
  record { shown = λ r s. unsaid_shown colour (if there then CutOff else Silent) r s; link_control = refl },
  tail_shown colour tail,
)

tail_quiet : (tail : List Bool)
    → AllZip IsLoud (map (λ (there : Bool). unsaid (if there then CutOff else Silent)) tail) (map (λ (there : Bool). false) tail)
tail_quiet [] = tt
tail_quiet (there ∷ tail) = (λ e. refl, tail_quiet tail)

told_is_meant : (colour : ℕ) (cs : List Cell) (es : List Repeated) → AreShownAs colour cs es → first_meant cs ≡ first_told es
told_is_meant colour [] [] shown = refl
told_is_meant colour [] (e ∷ es) shown = absurd shown
told_is_meant colour (c ∷ cs) [] shown = absurd shown
told_is_meant colour (c ∷ cs) (e ∷ es) shown =
    ap (λ (lc : Option FullLc). option_or lc (first_meant cs)) shown.0.link_control
    ∙ ap (λ (lc : Option FullLc). option_or (lc_told e) lc) (told_is_meant colour cs es shown.1)

nothing_first : (n : ℕ) (es : List Repeated) → first_told (replicate n repeated.Nothing ++ es) ≡ first_told es
nothing_first zero es = refl
nothing_first (suc n) es = nothing_first n es

filled_once : (f : Bool) → (plus_one f 0 ≡ cond f 1 0) × (cond f 1 0 ≤ 1)
filled_once true = (refl, omega arith)
filled_once false = (refl, omega arith)

late_shape : (colour : ℕ) (lc : FullLc) (tail : List Bool) (ss : List Superframe) (ending : Ending)
    → IsTransmission colour (LateCall lc tail ss ending)
    → IfSome (call_due colour (LateCall lc tail ss ending)) (λ call. IsCallShape colour (LateCall lc tail ss ending) call)
late_shape colour lc tail ss ending well =
    let some = within_some (presence ss) well.1 in
    let short = short_by ss ending well.4 in
    let ends = endings_are lc ending in
    let long = places_long None ss in
    let absent = places_filled None ss in
    let f = first_place (place_repeats None ss) (places_are None ss) (omega (arith, long, some)) in
    let by_places = behind_places f.rest (ending_repeats lc ending) f.are in
    let once = filled_once f.is_filled in
    let once_is = once.0 in
    let once_few = once.1 in
    let shown = join_shown colour _ _ _ _ (tail_shown colour tail) (join_shown colour _ _ _ _
    (subst (λ (l : List Repeated). AreShownAs colour (superframe_cells colour None ss) l) f.is (places_shown colour None ss short))
    (ending_shown colour lc ending)) in
    let long_is = ap length f.is in
    let absent_is = ap filled_in f.is in
    record {
      begin = repeated.Place f.known f.is_filled;
      more = f.rest ++ ending_repeats lc ending;
      shown = shown;
      louds = map (λ (there : Bool). false) tail ++ (presence ss ++ ending_louds ending);
      loud = zip_join IsLoud _ _ _ _ (tail_quiet tail)
          (zip_join IsLoud _ _ _ _ (places_loud colour None ss short) (endings_loud lc ending));
      ends = ends_append (map (λ (there : Bool). false) tail) (presence ss ++ ending_louds ending) (ends_so ss ending well.4 some);
      first = record {
        stage = stage.Places;
        link_control = f.known;
        is_late = true;
        places = 1;
        filled = plus_one f.is_filled 0;
      };
      begins = tt;
      begun = refl;
      order = by_places.order stage.Places refl (λ t going. ends.order t going);
      few = (omega arith, omega (arith, once_is, once_few));
      behind = λ end b.
          let p = b.places in
          let q = b.filled in
          let p' = by_places.places in
          let q' = by_places.filled in
          let r = ends.places in
          let s = ends.filled in
          call_by end _ (b.stage ∙ by_places.going ∙ ends.going stage.Places)
          (b.link_control
          ∙ sym (nothing_first (length tail) (repeated.Place f.known f.is_filled ∷ (f.rest ++ ending_repeats lc ending)))
          ∙ sym (told_is_meant colour _ _ shown))
          b.late (omega (arith, p, p', r, long, long_is)) (omega (arith, q, q', s, absent, absent_is, once_is));
    }

-- each call has its shape
pub shape_of : (colour : ℕ) (t : Transmission) → IsTransmission colour t
    → IfSome (call_due colour t) (λ call. IsCallShape colour t call)
shape_of colour (VoiceCall lc header leads gap ss ending) well = voice_shape colour lc header leads gap ss ending well
shape_of colour (HeadersAlone lc header leads ending) well = headers_shape colour lc header leads ending
shape_of colour (LateCall lc tail ss ending) well = late_shape colour lc tail ss ending well
shape_of colour (Controls bursts) well = tt
shape_of colour (DataTry csbks header blocks) well = tt
shape_of colour (ForeignParts parts) well = tt
