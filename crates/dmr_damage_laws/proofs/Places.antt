-- The superframes of a call: the fields of their places from B to E may be others, and they mean the same.
use Rattle.std.proofs.Common.{◌≡◌, ◌⊎◌, inl, inr, ℕ, zero, suc, ◌≤◌, ◌<◌, Bool, true, false, List, [], ◌∷◌, ◌++◌, map, take, drop}
use Rattle.std.proofs.Common.{length, Option, Some, None, refl, sym, ap, ◌∙◌, subst, arith, append_assoc}
use Rattle.std.proofs.Common.{if◌then◌else◌}
use Rattle.std.specs.List.{AllByRecursion, AllZip}
use Rattle.dmr_hearing.specs.Damage.{IsRecordedAs}
use Rattle.dmr_hearing.specs.Fields.{IsReceived}
use Rattle.dmr_hearing.specs.Slots.{SentSlot, vocoder_of}
use Rattle.dmr_link.specs.declared.full_lc.FullLc.{FullLc}
use Rattle.dmr_voice.proofs.Superframes.{AllSix, InSixes, Quiet, carries, field_of, known_with, left, one_less, own_lc, place_cells}
use Rattle.dmr_voice.proofs.Superframes.{placed_cells}
use Rattle.dmr_voice.specs.CallMeaning.{Cell, Present, Superframe, is_complete, place_cell}
use Rattle.dmr_voice.specs.DamagedRecordings.{meant}
use Rattle.dmr_voice.specs.Places.{next, option_or, voice_of}
use Rattle.dmr_voice.specs.WellFormed.{IsReadableSuperframe}
use Rattle.dmr_voice.specs.declared.place.Place.{Place}
use Rattle.dmr_voice.specs.declared.place.Place.TheVariants.{A, B, C, D, E, F}
use Rattle.dmr_voice.specs.declared.said.Role.{Role}
use Rattle.dmr_voice.specs.declared.said.Role.TheVariants.{Call}
use Rattle.dmr_damage.specs.LimitedSlots.{AreFieldsBehindA, moved_on}
use Rattle.dmr_damage_laws.proofs.Cells.{Agrees, sent_with, with_none}
use Rattle.dmr_damage_laws.proofs.Decided.{Decided, outs_of, slots_of}
use Rattle.dmr_damage_laws.proofs.Rewriting.{IsLine, IsPlain, IsRewritten, Rewrites, both_same, goes_on, no_fields, plain}
use Rattle.dmr_damage_laws.proofs.Rewriting.{rewrites_as}
use Rattle.dmr_damage_laws.proofs.Steps.{AreDue, AreFieldsNext, step}
use Rattle.dmr_damage_laws.specs.SameTransmissions.{IsSamePlace, IsSameSuperframe}

-- 1. One place.

-- A place from B to F is plain, where its field isn't damaged.
absent_plain : (colour : ℕ) (place : Place) (carried lc : Option FullLc) (role : Role) (n : ℕ) → suc n ≤ left place
    → IsPlain (place_cell colour place carried lc role None)
absent_plain colour A carried lc role n few = absurd (omega (arith, few))
absent_plain colour B carried lc role n few = record { agrees = tt; never = λ v k old new e. e }
absent_plain colour C carried lc role n few = record { agrees = tt; never = λ v k old new e. e }
absent_plain colour D carried lc role n few = record { agrees = tt; never = λ v k old new e. e }
absent_plain colour E carried lc role n few = record { agrees = tt; never = λ v k old new e. e }
absent_plain colour F carried lc role n few = record { agrees = tt; never = λ v k old new e. e }

there_plain : (colour : ℕ) (place : Place) (carried lc : Option FullLc) (role : Role) (y : Present) (n : ℕ) → suc n ≤ left place
    → IsPlain (place_cell colour place carried lc role (Some y))
there_plain colour A carried lc role y n few = absurd (omega (arith, few))
there_plain colour B carried lc role y n few =
    record { agrees = inl (B, y.pi, lc, role, refl); never = λ v k old new e. e }
there_plain colour C carried lc role y n few =
    record { agrees = inl (C, y.pi, lc, role, refl); never = λ v k old new e. e }
there_plain colour D carried lc role y n few =
    record { agrees = inl (D, y.pi, lc, role, refl); never = λ v k old new e. e }
there_plain colour E carried lc role y n few =
    record { agrees = inl (E, y.pi, lc, role, refl); never = λ v k old new e. e }
there_plain colour F carried lc role y n few =
    record { agrees = inr (y.pi, y.embedded, role, refl); never = λ v k old new e. e }

place_plain : (colour : ℕ) (place : Place) (carried lc : Option FullLc) (role : Role) (y : Option Present) (n : ℕ)
    → suc n ≤ left place → IsPlain (place_cell colour place carried lc role y)
place_plain colour place carried lc role None n few = absent_plain colour place carried lc role n few
place_plain colour place carried lc role (Some y) n few = there_plain colour place carried lc role y n few

-- so are the places of a superframe from B on
places_plain : (colour : ℕ) (place : Place) (carried lc : Option FullLc) (role : Role) (ys : List (Option Present))
    → length ys ≤ left place → AllByRecursion IsPlain (place_cells colour place carried lc role ys)
places_plain colour place carried lc role [] few = tt
places_plain colour place carried lc role (y ∷ ys) few = (
  place_plain colour place carried lc role y (length ys) few,
  places_plain colour (next place) carried lc role ys (one_less place (length ys) few),
)

-- A place from B to E, of which the field is damaged.
abbrev pub IsBToE : Place → Type 0
IsBToE A = ⊥
IsBToE B = Unit {0}
IsBToE C = Unit {0}
IsBToE D = Unit {0}
IsBToE E = Unit {0}
IsBToE F = ⊥

-- it agrees with what it means
there_agrees : (colour : ℕ) (place : Place) (carried lc : Option FullLc) (role : Role) (y : Present) → IsBToE place
    → IsPlain (place_cell colour place carried lc role (Some y))
there_agrees colour A carried lc role y b = absurd b
there_agrees colour B carried lc role y b = record { agrees = inl (B, y.pi, lc, role, refl); never = λ v k old new e. e }
there_agrees colour C carried lc role y b = record { agrees = inl (C, y.pi, lc, role, refl); never = λ v k old new e. e }
there_agrees colour D carried lc role y b = record { agrees = inl (D, y.pi, lc, role, refl); never = λ v k old new e. e }
there_agrees colour E carried lc role y b = record { agrees = inl (E, y.pi, lc, role, refl); never = λ v k old new e. e }
there_agrees colour F carried lc role y b = absurd b

-- the same place with this field
abbrev pub with_field : Present → ℕ → Present
with_field y field = record { pi = y.pi; embedded = field }

-- what is sent is the same but for its field,
sent_with_field : (colour : ℕ) (place : Place) (carried lc : Option FullLc) (role : Role) (y : Present) (field : ℕ) → IsBToE place
    → sent_with (place_cell colour place carried lc role (Some y)).sent (Some field)
    ≡ (place_cell colour place carried lc role (Some (with_field y field))).sent
sent_with_field colour A carried lc role y field b = absurd b
sent_with_field colour B carried lc role y field b = refl
sent_with_field colour C carried lc role y field b = refl
sent_with_field colour D carried lc role y field b = refl
sent_with_field colour E carried lc role y field b = refl
sent_with_field colour F carried lc role y field b = absurd b

-- and means the same
means_with_field : (colour : ℕ) (place : Place) (carried lc : Option FullLc) (role : Role) (y : Present) (field : ℕ)
    (vocoder : List Bool) → IsBToE place
    → (place_cell colour place carried lc role (Some (with_field y field))).means vocoder
    ≡ (place_cell colour place carried lc role (Some y)).means vocoder
means_with_field colour A carried lc role y field v b = absurd b
means_with_field colour B carried lc role y field v b = refl
means_with_field colour C carried lc role y field v b = refl
means_with_field colour D carried lc role y field v b = refl
means_with_field colour E carried lc role y field v b = refl
means_with_field colour F carried lc role y field v b = absurd b

-- A place is written with a field.
one_field : (X : Type 0) (cells_of : X → List Cell) (Holds : X → Type 0) (colour : ℕ) (place : Place) (carried lc : Option FullLc)
    (role : Role) (y : Present) (field : ℕ) (later : List (Option ℕ)) (more : List Cell) → IsBToE place
    → Rewrites X cells_of Holds colour (moved_on (Some field ∷ later)) more
    → (ds : List Decided) → IsLine colour (Some field ∷ later) (place_cell colour place carried lc role (Some y) ∷ more) ds
    → IsRewritten X (λ x. place_cell colour place carried lc role (Some (with_field y field)) ∷ cells_of x) Holds colour
    (place_cell colour place carried lc role (Some y) ∷ more) ds
one_field X cells_of Holds colour place carried lc role y field later more b rest [] line = absurd line.due
one_field X cells_of Holds colour place carried lc role y field later more b rest (d ∷ ds) line =
    let c = place_cell colour place carried lc role (Some y) in
    let e = place_cell colour place carried lc role (Some (with_field y field)) in
    let there = there_agrees colour place carried lc role y b in
    let (new, how, due) = line.due in
    let s = step colour (Some field ∷ later) c d new there.agrees line.heard.0 how in
    let same : new ≡ moved_on (Some field ∷ later) = goes_on c there d.heard.vocoder d.carried (Some field ∷ later) new s.next in
    let w = rest.by ds (record {
      due = subst (λ f. AreDue colour f more ds) same due;
      heard = line.heard.1;
      carries = line.carries.1;
    }) in
    record {
      value = w.value;
      holds = w.holds;
      recorded = (
        subst (λ (x : SentSlot). IsRecordedAs colour x d.out) (sent_with_field colour place carried lc role y field b)
            s.written.recorded,
        w.recorded,
      );
      meaning = both_same (e.means (vocoder_of d.out)) (c.means (vocoder_of d.slot)) (meant (cells_of w.value) (outs_of ds))
          (meant more (slots_of ds))
          (means_with_field colour place carried lc role y field (vocoder_of d.out) b ∙ s.written.means_alike) w.meaning;
    }

field_place : {X : Type 0} {cells_of : X → List Cell} {Holds : X → Type 0} {colour : ℕ} {more : List Cell} (place : Place)
    (carried lc : Option FullLc) (role : Role) (y : Present) (field : ℕ) (later : List (Option ℕ)) → IsBToE place
    → Rewrites X cells_of Holds colour (moved_on (Some field ∷ later)) more
    → Rewrites X (λ x. place_cell colour place carried lc role (Some (with_field y field)) ∷ cells_of x) Holds colour
    (Some field ∷ later) (place_cell colour place carried lc role (Some y) ∷ more)
field_place {X = X} {cells_of = cells_of} {Holds = Holds} {colour = colour} {more = more} place carried lc role y field later b
    rest =
    record { by = λ ds line. one_field X cells_of Holds colour place carried lc role y field later more b rest ds line }

-- 2. One superframe.

-- Where B to E are there, they are written with these fields.
four_places : {X : Type 0} {cells_of : X → List Cell} {Holds : X → Type 0} {colour : ℕ} {more : List Cell}
    (carried lc : Option FullLc) (role : Role) (b c d e : Present) (tail : List (Option Present)) (r s t u : ℕ)
    → length tail ≤ 1 → Rewrites X cells_of Holds colour no_fields more
    → Rewrites X (λ x. place_cells colour B carried lc role
    (Some (with_field b r) ∷ Some (with_field c s) ∷ Some (with_field d t) ∷ Some (with_field e u) ∷ tail) ++ cells_of x) Holds
    colour (Some r ∷ Some s ∷ Some t ∷ Some u ∷ [])
    (place_cells colour B carried lc role (Some b ∷ Some c ∷ Some d ∷ Some e ∷ tail) ++ more)
four_places {colour = colour} carried lc role b c d e tail r s t u few rest =
    field_place B carried lc role b r (Some s ∷ Some t ∷ Some u ∷ []) tt
    (field_place C carried lc role c s (Some t ∷ Some u ∷ None ∷ []) tt
    (field_place D carried lc role d t (Some u ∷ None ∷ None ∷ []) tt
    (field_place E carried lc role e u (None ∷ None ∷ None ∷ []) tt
    (plain (place_cells colour F carried lc role tail) (places_plain colour F carried lc role tail few) rest))))

-- The places behind an A were received, and the next four fields are written so.
record IsReceiving (carried : Option FullLc) (ys : List (Option Present)) (new : List (Option ℕ)) : Type 0 where
  b : Present
  c : Present
  d : Present
  e : Present
  tail : List (Option Present)
  there : ys ≡ Some b ∷ Some c ∷ Some d ∷ Some e ∷ tail
  lc : FullLc
  carries : carried ≡ Some lc
  r : ℕ
  s : ℕ
  t : ℕ
  u : ℕ
  fields : new ≡ Some r ∷ Some s ∷ Some t ∷ Some u ∷ []
  received : IsReceived lc (r ∷ s ∷ t ∷ u ∷ [])

record AreFourThere (ys : List (Option Present)) : Type 0 where
  b : Present
  c : Present
  d : Present
  e : Present
  tail : List (Option Present)
  there : ys ≡ Some b ∷ Some c ∷ Some d ∷ Some e ∷ tail

four_there : (ys : List (Option Present)) → is_complete 4 ys ≡ true → AreFourThere ys
four_there (Some b ∷ Some c ∷ Some d ∷ Some e ∷ tail) all =
    record { b = b; c = c; d = d; e = e; tail = tail; there = refl }
four_there [] all = cc
four_there (None ∷ ys) all = cc
four_there (Some b ∷ []) all = cc
four_there (Some b ∷ None ∷ ys) all = cc
four_there (Some b ∷ Some c ∷ []) all = cc
four_there (Some b ∷ Some c ∷ None ∷ ys) all = cc
four_there (Some b ∷ Some c ∷ Some d ∷ []) all = cc
four_there (Some b ∷ Some c ∷ Some d ∷ None ∷ ys) all = cc

carried_whole : (whole : Bool) (carried : Option FullLc) (lc : FullLc) → Some lc ≡ (if whole then carried else None)
    → (whole ≡ true) × (carried ≡ Some lc)
carried_whole true carried lc e = (refl, sym e)
carried_whole false carried lc e = cc

receiving : (carried : Option FullLc) (ys : List (Option Present)) (new : List (Option ℕ)) (lc : FullLc) (received : List ℕ)
    → Some lc ≡ (if is_complete 4 ys then carried else None) → length received ≡ 4 → IsReceived lc received
    → new ≡ map Some received → IsReceiving carried ys new
receiving carried ys new lc (r ∷ s ∷ t ∷ u ∷ []) own four is all =
    let whole = carried_whole (is_complete 4 ys) carried lc own in
    let there = four_there ys whole.0 in
    record {
      b = there.b;
      c = there.c;
      d = there.d;
      e = there.e;
      tail = there.tail;
      there = there.there;
      lc = lc;
      carries = whole.1;
      r = r;
      s = s;
      t = t;
      u = u;
      fields = all;
      received = is;
    }
receiving carried ys new lc [] own four is all = absurd (omega (arith, four))
receiving carried ys new lc (r ∷ []) own four is all = absurd (omega (arith, four))
receiving carried ys new lc (r ∷ s ∷ []) own four is all = absurd (omega (arith, four))
receiving carried ys new lc (r ∷ s ∷ t ∷ []) own four is all = absurd (omega (arith, four))
receiving carried ys new lc (r ∷ s ∷ t ∷ u ∷ v ∷ more) own four is all = absurd (omega (arith, four))

-- Behind an A no field is damaged, or those of the four places that are received.
behind_a : (carried : Option FullLc) (ys : List (Option Present)) (new : List (Option ℕ)) (k : Option FullLc)
    → k ≡ (if is_complete 4 ys then carried else None) → (new ≡ moved_on no_fields) ⊎ AreFieldsBehindA k no_fields new
    → (new ≡ no_fields) ⊎ IsReceiving carried ys new
behind_a carried ys new k own (inl e) = inl e
behind_a carried ys new None own (inr e) = inl e
behind_a carried ys new (Some lc) own (inr (received, four, is, all)) = inr (receiving carried ys new lc received own four is all)

-- What the places behind an A are written as.
record IsBehindA (X : Type 0) (cells_of : X → List Cell) (Holds : X → Type 0) (colour : ℕ) (carried lc : Option FullLc)
    (role : Role) (more : List Cell) (y : Option Present) (ys : List (Option Present)) (new : List (Option ℕ)) : Type 0 where
  others : List (Option Present)
  same : AllZip IsSamePlace ys others
  last : drop 4 others ≡ drop 4 ys
  readable : IsReadableSuperframe (record { carries = carried; places = y ∷ others })
  rewrites : Rewrites X (λ x. place_cells colour B carried lc role others ++ cells_of x) Holds colour new
      (place_cells colour B carried lc role ys ++ more)

same_place : (y : Option Present) → IsSamePlace y y
same_place None = tt
same_place (Some y) = refl

-- places are the same as themselves
pub same_places : (ys : List (Option Present)) → AllZip IsSamePlace ys ys
same_places [] = tt
same_places (y ∷ ys) = (same_place y, same_places ys)

places_behind : (X : Type 0) (cells_of : X → List Cell) (Holds : X → Type 0) (colour : ℕ) (carried lc : Option FullLc)
    (role : Role) (more : List Cell) (y : Option Present) (ys : List (Option Present)) (new : List (Option ℕ)) → length ys ≤ 5
    → IsReadableSuperframe (record { carries = carried; places = y ∷ ys }) → Rewrites X cells_of Holds colour no_fields more
    → (new ≡ no_fields) ⊎ IsReceiving carried ys new → IsBehindA X cells_of Holds colour carried lc role more y ys new
places_behind X cells_of Holds colour carried lc role more y ys new few readable rest (inl none) = record {
  others = ys;
  same = same_places ys;
  last = refl;
  readable = readable;
  rewrites = subst (λ f. Rewrites X (λ x. place_cells colour B carried lc role ys ++ cells_of x) Holds colour f
      (place_cells colour B carried lc role ys ++ more)) (sym none)
      (plain (place_cells colour B carried lc role ys) (places_plain colour B carried lc role ys few) rest);
}
places_behind X cells_of Holds colour carried lc role more y ys new few readable rest (inr g) =
    let short : length g.tail ≤ 1 =
    let long = ap length g.there in omega (arith, long, few) in
    let literal : IsBehindA X cells_of Holds colour (Some g.lc) lc role more y (Some g.b ∷ Some g.c ∷ Some g.d ∷ Some g.e ∷ g.tail)
    (Some g.r ∷ Some g.s ∷ Some g.t ∷ Some g.u ∷ []) = record {
      others = Some (with_field g.b g.r) ∷ Some (with_field g.c g.s) ∷ Some (with_field g.d g.t) ∷ Some (with_field g.e g.u)
          ∷ g.tail;
      same = (refl, (refl, (refl, (refl, same_places g.tail))));
      last = refl;
      readable = λ whole. g.received;
      rewrites = four_places (Some g.lc) lc role g.b g.c g.d g.e g.tail g.r g.s g.t g.u short rest;
    } in
    subst (λ k. IsBehindA X cells_of Holds colour k lc role more y ys new) (sym g.carries)
    (subst (λ l. IsBehindA X cells_of Holds colour (Some g.lc) lc role more y l new) (sym g.there)
    (subst (λ f. IsBehindA X cells_of Holds colour (Some g.lc) lc role more y
    (Some g.b ∷ Some g.c ∷ Some g.d ∷ Some g.e ∷ g.tail) f) (sym g.fields) literal))

-- A superframe is another with the same places, which is readable.
pub record IsReceivedAs (s t : Superframe) : Type 0 where
  pub same : IsSameSuperframe s t
  pub readable : IsReadableSuperframe t

a_agrees : (colour : ℕ) (carried lc : Option FullLc) (role : Role) (y : Option Present)
    → Agrees (place_cell colour A carried lc role y).sent (place_cell colour A carried lc role y).means
a_agrees colour carried lc role None = tt
a_agrees colour carried lc role (Some y) = inr (role, refl)

a_next : (colour : ℕ) (carried lc : Option FullLc) (role : Role) (y : Option Present) (vocoder : List Bool) (k : Option FullLc)
    (old new : List (Option ℕ))
    → (new ≡ moved_on old) ⊎ AreFieldsNext ((place_cell colour A carried lc role y).means vocoder) k old new
    → (new ≡ moved_on old) ⊎ AreFieldsBehindA k old new
a_next colour carried lc role y v k old new (inl e) = inl e
a_next colour carried lc role None v k old new (inr n) = inr n
a_next colour carried lc role (Some y) v k old new (inr n) = inr n

readable_carried : (y : Option Present) (ys : List (Option Present)) (carried : Option FullLc)
    → IsReadableSuperframe (record { carries = carried; places = y ∷ ys })
    → is_complete 4 ys ≡ true → (w : FullLc) → carried ≡ Some w → IsReceived w (map field_of (take 4 ys))
readable_carried y ys carried r whole w e =
    let there = four_there ys whole in
    let is : IsReadableSuperframe (record {
      carries = Some w;
      places = y ∷ Some there.b ∷ Some there.c ∷ Some there.d
          ∷ Some there.e ∷ there.tail;
    }) =
    subst (λ l. IsReadableSuperframe (record { carries = Some w; places = y ∷ l })) there.there
    (subst (λ k. IsReadableSuperframe (record { carries = k; places = y ∷ ys })) e r) in
    subst (λ l. IsReceived w (map field_of (take 4 l))) (sym there.there) (is refl)

-- a superframe is written as one that is received, and means the same
superframe_by : (X : Type 0) (cells_of : X → List Cell) (Holds : X → Type 0) (colour : ℕ) (carried lc : Option FullLc)
    (role : Role) (y : Option Present) (ys : List (Option Present)) (more : List Cell) → length ys ≤ 5
    → IsReadableSuperframe (record { carries = carried; places = y ∷ ys }) → (length ys < 4 → Quiet more)
    → Rewrites X cells_of Holds colour no_fields more
    → (ds : List Decided) → IsLine colour no_fields (place_cells colour A carried lc role (y ∷ ys) ++ more) ds
    → IsRewritten (Superframe × X) (λ x. place_cells colour A x.0.carries lc role x.0.places ++ cells_of x.1)
    (λ x. IsReceivedAs (record { carries = carried; places = y ∷ ys }) x.0 × Holds x.1) colour
    (place_cells colour A carried lc role (y ∷ ys) ++ more) ds
superframe_by X cells_of Holds colour carried lc role y ys more few readable quiet rest [] line = absurd line.due
superframe_by X cells_of Holds colour carried lc role y ys more few readable quiet rest (d ∷ ds) line =
    let c = place_cell colour A carried lc role y in
    let (new, how, due) = line.due in
    let s = step colour no_fields c d new (a_agrees colour carried lc role y) line.heard.0 how in
    let own : d.carried ≡ (if is_complete 4 ys then carried else None) =
    (carries colour carried lc role ys more quiet (readable_carried y ys carried readable)).by _ d.carried line.heard.1
    line.carries.0
    in
    let next = behind_a carried ys new d.carried own
    (a_next colour carried lc role y d.heard.vocoder d.carried no_fields new s.next) in
    let behind = places_behind X cells_of Holds colour carried lc role more y ys new few readable rest next in
    let w = behind.rewrites.by ds (record { due = due; heard = line.heard.1; carries = line.carries.1 }) in
    record {
      value = (record { carries = carried; places = y ∷ behind.others }, w.value);
      holds = (
        record {
          same = record { carries = refl; places = (same_place y, behind.same); first = refl; last = behind.last };
          readable = behind.readable;
        },
        w.holds,
      );
      recorded = (subst (λ (x : SentSlot). IsRecordedAs colour x d.out) (with_none c.sent) s.written.recorded, w.recorded);
      meaning = both_same (c.means (vocoder_of d.out)) (c.means (vocoder_of d.slot)) _ _ s.written.means_alike w.meaning;
    }

one_superframe : {X : Type 0} {cells_of : X → List Cell} {Holds : X → Type 0} {colour : ℕ} {more : List Cell} (s : Superframe)
    (lc : Option FullLc) (role : Role) → 1 ≤ length s.places → length s.places ≤ 6 → IsReadableSuperframe s
    → (length s.places < 5 → Quiet more) → Rewrites X cells_of Holds colour no_fields more
    → Rewrites (Superframe × X) (λ x. place_cells colour A x.0.carries lc role x.0.places ++ cells_of x.1)
    (λ x. IsReceivedAs s x.0 × Holds x.1) colour no_fields (place_cells colour A s.carries lc role s.places ++ more)
one_superframe {X = X} {cells_of = cells_of} {Holds = Holds} {colour = colour} {more = more} s lc role some few readable quiet rest
    = by_places s.carries s.places some few readable quiet
  where
    by_places : (carried : Option FullLc) (ys : List (Option Present)) → 1 ≤ length ys → length ys ≤ 6
        → IsReadableSuperframe (record { carries = carried; places = ys }) → (length ys < 5 → Quiet more)
        → Rewrites (Superframe × X) (λ x. place_cells colour A x.0.carries lc role x.0.places ++ cells_of x.1)
        (λ x. IsReceivedAs (record { carries = carried; places = ys }) x.0 × Holds x.1) colour no_fields
        (place_cells colour A carried lc role ys ++ more)
    by_places carried [] some few readable quiet = absurd (omega (arith, some))
    by_places carried (y ∷ ys) some few readable quiet = record {
      by = λ ds line. superframe_by X cells_of Holds colour carried lc role y ys more (omega (arith, few)) readable
          (λ short. quiet (omega (arith, short))) rest ds line;
    }

-- 3. All superframes of a call.

-- Each superframe has six places, or the last has fewer and silence follows.
abbrev pub Closes : List Superframe → List Cell → Type 0
Closes ss more = AllSix ss ⊎ (InSixes ss × Quiet more)

closes_rest : (s : Superframe) (ss : List Superframe) (more : List Cell) → Closes (s ∷ ss) more → Closes ss more
closes_rest s ss more (inl all) = inl all.1
closes_rest s [] more (inr last) = inl tt
closes_rest s (t ∷ ss) more (inr last) = inr (last.0.1, last.1)

closes_few : (s : Superframe) (ss : List Superframe) (more : List Cell) → Closes (s ∷ ss) more
    → (1 ≤ length s.places) × (length s.places ≤ 6)
closes_few s ss more (inl all) = let six = all.0 in (omega (arith, six), omega (arith, six))
closes_few s [] more (inr last) = last.0
closes_few s (t ∷ ss) more (inr last) = let six = last.0.0 in (omega (arith, six), omega (arith, six))

closes_quiet : (colour : ℕ) (known : Option FullLc) (s : Superframe) (ss : List Superframe) (more : List Cell)
    → Closes (s ∷ ss) more → length s.places < 5 → Quiet (placed_cells colour known ss ++ more)
closes_quiet colour known s ss more (inl all) short = let six = all.0 in absurd (omega (arith, six, short))
closes_quiet colour known s [] more (inr last) short = last.1
closes_quiet colour known s (t ∷ ss) more (inr last) short = let six = last.0.0 in absurd (omega (arith, six, short))

complete_alike : (n : ℕ) (xs ys : List (Option Present)) → AllZip IsSamePlace xs ys → is_complete n xs ≡ is_complete n ys
complete_alike zero xs ys p = refl
complete_alike (suc n) [] [] p = refl
complete_alike (suc n) [] (y ∷ ys) p = absurd p
complete_alike (suc n) (x ∷ xs) [] p = absurd p
complete_alike (suc n) (None ∷ xs) (None ∷ ys) p = refl
complete_alike (suc n) (None ∷ xs) (Some y ∷ ys) p = absurd p.0
complete_alike (suc n) (Some x ∷ xs) (None ∷ ys) p = absurd p.0
complete_alike (suc n) (Some x ∷ xs) (Some y ∷ ys) p = complete_alike n xs ys p.1

behind_alike : (xs ys : List (Option Present)) → AllZip IsSamePlace xs ys → AllZip IsSamePlace (drop 1 xs) (drop 1 ys)
behind_alike [] [] p = tt
behind_alike [] (y ∷ ys) p = absurd p
behind_alike (x ∷ xs) [] p = absurd p
behind_alike (x ∷ xs) (y ∷ ys) p = p.1

-- its own link control is the same
own_alike : (s t : Superframe) → IsSameSuperframe s t → own_lc t ≡ own_lc s
own_alike s t same =
    ap (λ b. if b then t.carries else None)
    (sym (complete_alike 4 (drop 1 s.places) (drop 1 t.places) (behind_alike s.places t.places same.places)))
    ∙ ap (λ k. if is_complete 4 (drop 1 s.places) then k else None) same.carries

-- all superframes in front of others are written as ones that are received
pub superframes : {X : Type 0} {cells_of : X → List Cell} {Holds : X → Type 0} {colour : ℕ} {more : List Cell}
    (call : Option FullLc) (ss : List Superframe) → Closes ss more → AllByRecursion IsReadableSuperframe ss
    → Rewrites X cells_of Holds colour no_fields more
    → Rewrites (List Superframe × X) (λ x. placed_cells colour call x.0 ++ cells_of x.1)
    (λ x. AllZip IsReceivedAs ss x.0 × Holds x.1) colour no_fields (placed_cells colour call ss ++ more)
superframes {X = X} {cells_of = cells_of} {Holds = Holds} {colour = colour} call [] closes readable rest =
    rewrites_as (λ (x : List Superframe × X). placed_cells colour call x.0 ++ cells_of x.1)
    (λ (x : List Superframe × X). AllZip IsReceivedAs [] x.0 × Holds x.1) (λ x. ([], x)) (λ x h. refl) (λ x h. (tt, h)) rest
superframes {X = X} {cells_of = cells_of} {Holds = Holds} {colour = colour} {more = more} call (s ∷ ss) closes readable rest =
    let known = known_with call s in
    let lc = option_or (own_lc s) known in
    let few = closes_few s ss more closes in
    let later = superframes known ss (closes_rest s ss more closes) readable.1 rest in
    let all = one_superframe s lc (Call known) few.0 few.1 readable.0 (closes_quiet colour known s ss more closes) later in
    subst (Rewrites (List Superframe × X) (λ x. placed_cells colour call x.0 ++ cells_of x.1)
    (λ x. AllZip IsReceivedAs (s ∷ ss) x.0 × Holds x.1) colour no_fields)
    (sym (append_assoc (place_cells colour A s.carries lc (Call known) s.places) (placed_cells colour known ss) more))
    (rewrites_as (λ (x : List Superframe × X). placed_cells colour call x.0 ++ cells_of x.1)
    (λ (x : List Superframe × X). AllZip IsReceivedAs (s ∷ ss) x.0 × Holds x.1)
    (λ x. (x.0 ∷ x.1.0, x.1.1)) (λ x h. cells_alike x.0 x.1.0 (cells_of x.1.1) h.0.same) (λ x h. ((h.0, h.1.0), h.1.1)) all)
  where
    cells_alike : (t : Superframe) (ts : List Superframe) (rest : List Cell) → IsSameSuperframe s t
        → place_cells colour A t.carries (option_or (own_lc s) (known_with call s)) (Call (known_with call s)) t.places
        ++ (placed_cells colour (known_with call s) ts ++ rest) ≡ placed_cells colour call (t ∷ ts) ++ rest
    cells_alike t ts rest same =
        ap (λ own. place_cells colour A t.carries (option_or own (option_or call (voice_of own)))
        (Call (option_or call (voice_of own))) t.places ++ (placed_cells colour (option_or call (voice_of own)) ts ++ rest))
        (sym (own_alike s t same))
        ∙ sym (append_assoc (place_cells colour A t.carries (option_or (own_lc t) (known_with call t)) (Call (known_with call t))
        t.places) (placed_cells colour (known_with call t) ts) rest)
