-- Another colour code of a script isn't its own one.
use Rattle.std.proofs.Common.{◌≡◌, ◌≢◌, ℕ, zero, suc, ◌==◌, Bool, true, false, List, [], ◌∷◌, Some, None}
use Rattle.std.proofs.Common.{◌⊎◌, inl, inr, arith, refl, ap, subst, sym, ◌∙◌, if◌then◌else◌}
use Rattle.dmr_making.specs.Playing.{transmit_in, transmit_of}
use Rattle.dmr_planning.specs.Planning.{colour_behind, colour_behind_all}
use Rattle.dmr_script.specs.Order.{MayStandBehind, refused_behind, refused_sender, refused_transmit, said_with}
use Rattle.dmr_script.specs.declared.fault.Refusal.TheVariants.{ColourBehindSlot, NoSlot, OwnColour}
use Rattle.dmr_script.specs.declared.statement.NumberedStatement.{NumberedStatement}
use Rattle.dmr_script.specs.declared.statement.Sender.{Sender}
use Rattle.dmr_script.specs.declared.statement.Sender.TheVariants as sender
use Rattle.dmr_script.specs.declared.statement.Statement.{Statement}
use Rattle.dmr_script.specs.declared.statement.Statement.TheVariants as statement
use Rattle.dmr_script.specs.declared.statement.Transmit.{Transmit}

-- a sender has another colour code than this, or is the own station
abbrev pub IsOtherThan : ℕ → Sender → Type 0
IsOtherThan own sender.Own = Unit {0}
IsOtherThan own (sender.Foreign colour) = colour ≢ own

-- the colour code that was said is the one behind the statement
colour_said : (said : _) (s : Statement) → (said_with said s).colour ≡ colour_behind said.colour s
colour_said said (statement.Colour colour) = refl
colour_said said (statement.Slot slot) = refl
colour_said said (statement.Silence n) = refl
colour_said said (statement.At frame) = refl
colour_said said (statement.Frames n) = refl
colour_said said (statement.Transmit t) = refl
colour_said said (statement.Send s) = refl

-- a slot that was named stays so
slot_said : (said : _) (s : Statement) → (said_with said s).slot ≡ said.slot ⊎ ((said_with said s).slot ≡ true)
slot_said said (statement.Colour colour) = inl refl
slot_said said (statement.Slot slot) = inr refl
slot_said said (statement.Silence n) = inl refl
slot_said said (statement.At frame) = inl refl
slot_said said (statement.Frames n) = inl refl
slot_said said (statement.Transmit t) = inl refl
slot_said said (statement.Send s) = inl refl

slot_kept : (was is : Bool) → (is ≡ was) ⊎ (is ≡ true) → was ≡ true → is ≡ true
slot_kept was is (inl e) w = e ∙ w
slot_kept was is (inr e) w = e

-- no colour code is named behind a slot
no_colour : (said : _) (s : Statement) → refused_behind said s ≡ None → said.slot ≡ true → colour_behind said.colour s ≡ said.colour
no_colour said (statement.Colour colour) f e = by said.slot e f
  where
    by : (slot : Bool) → slot ≡ true → (if slot then Some ColourBehindSlot else None) ≡ None → colour ≡ said.colour
    by true e f = absurd (cc)
    by false e f = absurd (cc)
no_colour said (statement.Slot slot) f e = refl
no_colour said (statement.Silence n) f e = refl
no_colour said (statement.At frame) f e = refl
no_colour said (statement.Frames n) f e = refl
no_colour said (statement.Transmit t) f e = refl
no_colour said (statement.Send s) f e = refl

-- so the own one stays
colour_stays : (said : _) (ss : List NumberedStatement) → MayStandBehind said ss → said.slot ≡ true
    → colour_behind_all said.colour ss ≡ said.colour
colour_stays said [] m e = refl
colour_stays said (s ∷ ss) m e =
    let next = said_with said s.statement in
    let same : colour_behind said.colour s.statement ≡ said.colour = no_colour said s.statement m.0 e in
    let there : next.colour ≡ said.colour = colour_said said s.statement ∙ same in
    ap (λ (c : ℕ). colour_behind_all c ss) (sym (colour_said said s.statement))
    ∙ colour_stays next ss m.1 (slot_kept said.slot next.slot (slot_said said s.statement) e) ∙ there

-- a transmission stands behind a slot, and has another colour code
of_sender : (own : ℕ) (s : Sender) → refused_sender own s ≡ None → IsOtherThan own s
of_sender own sender.Own e = tt
of_sender own (sender.Foreign colour) e = by (colour == own) refl e
  where
    by : (same : Bool) → colour == own ≡ same → (if same then Some (OwnColour colour) else None) ≡ None → colour ≢ own
    by true test e = absurd (cc)
    by false test e = grind arith

of_transmit : (said : _) (s : Sender) → refused_transmit said s ≡ None → (said.slot ≡ true) × IsOtherThan said.colour s
of_transmit said s e = by said.slot refl e
  where
    by : (slot : Bool) → said.slot ≡ slot → (if slot then refused_sender said.colour s else Some NoSlot) ≡ None
        → (said.slot ≡ true) × IsOtherThan said.colour s
    by true test e = (test, of_sender said.colour s e)
    by false test e = absurd (cc)

first_other : (said : _) (s : Statement) (ss : List NumberedStatement) (t : Transmit) → refused_behind said s ≡ None
    → MayStandBehind (said_with said s) ss → transmit_of s ≡ Some t
    → IsOtherThan (colour_behind_all (colour_behind said.colour s) ss) t.sender
first_other said (statement.Colour colour) ss t f m e = absurd (cc)
first_other said (statement.Slot slot) ss t f m e = absurd (cc)
first_other said (statement.Silence n) ss t f m e = absurd (cc)
first_other said (statement.At frame) ss t f m e = absurd (cc)
first_other said (statement.Frames n) ss t f m e = absurd (cc)
first_other said (statement.Send s) ss t f m e = absurd (cc)
first_other said (statement.Transmit u) ss t f m e =
    let same : u ≡ t = cc in
    let is = of_transmit said u.sender f in
    subst (λ (x : Transmit). IsOtherThan (colour_behind_all said.colour ss) x.sender) same
    (subst (λ (c : ℕ). IsOtherThan c u.sender) (sym (colour_stays said ss m is.0)) is.1)

-- each transmission of a script does
pub other_colours : (said : _) (ss : List NumberedStatement) (at : ℕ) (t : Transmit) → MayStandBehind said ss
    → transmit_in ss at ≡ Some t → IsOtherThan (colour_behind_all said.colour ss) t.sender
other_colours said [] at t m e = absurd (cc)
other_colours said (s ∷ ss) zero t m e = first_other said s.statement ss t m.0 m.1 e
other_colours said (s ∷ ss) (suc at) t m e =
    subst (λ (c : ℕ). IsOtherThan (colour_behind_all c ss) t.sender) (colour_said said s.statement)
    (other_colours (said_with said s.statement) ss at t m.1 e)
