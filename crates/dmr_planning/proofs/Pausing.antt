-- Enough silences stand between the transmissions of a slot.
use Rattle.std.proofs.Common.{◌≡◌, ℕ, zero, suc, ◌+◌, ◌-◌, ◌≤◌, ◌⊎◌, inl, inr, nat_lt, Bool, true, false, List, [], ◌∷◌, ◌++◌}
use Rattle.std.proofs.Common.{arith, refl, subst, sym, ap, ◌∙◌, Option, Some, None, Result, Ok, Err, if◌then◌else◌}
use Rattle.std.specs.Option.{option_and_then}
use Rattle.dmr_making.specs.Playing.{transmit_in, transmit_of}
use Rattle.dmr_making.specs.declared.playing.PlacedTransmission.{PlacedTransmission}
use Rattle.dmr_planning.proofs.Planned.{IsNextThere, next_there, placed_start, silenced_end, silenced_to_end}
use Rattle.dmr_planning.specs.Pauses.{IsEnough, IsEnoughBetween, before_behind, begins_with_data, is_row, named_silences, needed}
use Rattle.dmr_planning.specs.Pauses.{needed_behind, paused, paused_with, silenced, silenced_to, stands}
use Rattle.dmr_planning.specs.Pausing.{ArePausedBetween, IsPausedBetween}
use Rattle.dmr_planning.specs.Planning.{ArePlanned, Planned, Plans, planned_slot, transmit_at, with_slot}
use Rattle.dmr_planning.specs.Slots.{IsTransmitted, NumberedTransmit, SlotSoFar, count_behind, placed_behind, placed_behind_pause}
use Rattle.dmr_planning.specs.declared.slot_state.Before.{Before}
use Rattle.dmr_planning.specs.declared.slot_state.Before.TheVariants as before
use Rattle.dmr_planning.specs.declared.slot_state.SlotState.{SlotState}
use Rattle.dmr_script.specs.declared.fault.Refusal.{Refusal}
use Rattle.dmr_script.specs.declared.fault.Refusal.TheVariants as refusal
use Rattle.dmr_script.specs.declared.statement.NumberedStatement.{NumberedStatement}
use Rattle.dmr_script.specs.declared.statement.Slot.{Slot}
use Rattle.dmr_script.specs.declared.statement.Slot.TheVariants.{One, Two}
use Rattle.dmr_script.specs.declared.statement.Statement.{Statement}
use Rattle.dmr_script.specs.declared.statement.Statement.TheVariants as statement
use Rattle.dmr_script.specs.declared.statement.Transmit.{Transmit}

-- 1. One pause.

-- as many as are needed are enough
enough_of : (b : Before) (silences : Option ℕ) (begins : Bool) (itself : Before) (n : ℕ)
    → needed_behind b silences begins itself ≤ n → IsEnough b begins itself n
enough_of before.Nothing silences begins itself n le = tt
enough_of before.SilencedCall silences begins itself n le = le
enough_of before.SilencedHeaders silences true itself n le = le
enough_of before.SilencedHeaders silences false itself n le = le
enough_of (before.Row colour) None begins itself n le = by (is_row colour itself) refl le
  where
    some_or_none : (n : ℕ) → is_row colour itself ≡ true → (1 ≤ n) ⊎ ((n ≡ 0) × (is_row colour itself ≡ true))
    some_or_none zero e = inr (refl, e)
    some_or_none (suc m) e = inl (omega arith)

    by : (row : Bool) → is_row colour itself ≡ row → (if row then 0 else 1) ≤ n
        → (1 ≤ n) ⊎ ((n ≡ 0) × (is_row colour itself ≡ true))
    by true e le = some_or_none n e
    by false e le = inl le
enough_of (before.Row colour) (Some named) begins itself n le = inl le
enough_of before.Other silences begins itself n le = le

-- a slot pauses as long as is needed
silenced_named : (s r : SlotState) (count : ℕ) → silenced s count ≡ Ok r → count ≤ named_silences r.silences
silenced_named s r count e = by (nat_lt (1048576 - stands s) count) e
  where
    by : (long : Bool)
        → (if long then Err refusal.TooLong else Ok (record s { silences = Some (named_silences s.silences + count) })) ≡ Ok r
        → count ≤ named_silences r.silences
    by true e = absurd (cc)
    by false e =
        let same : record s { silences = Some (named_silences s.silences + count) } ≡ r = cc in
        subst (λ (x : SlotState). count ≤ named_silences x.silences) same (omega arith)

paused_named : (s r : SlotState) (o : Option ℕ) (need : ℕ) → s.silences ≡ o → paused_with s o need ≡ Ok r
    → need ≤ named_silences r.silences
paused_named s r None need is e = silenced_named s r need e
paused_named s r (Some found) need is e = by (nat_lt found need) refl e
  where
    by : (few : Bool) → nat_lt found need ≡ few → (if few then Err (refusal.FewSilences found need s.line) else Ok s) ≡ Ok r
        → need ≤ named_silences r.silences
    by true test e = absurd (cc)
    by false test e =
        let same : s ≡ r = cc in
        let le : need ≤ found = grind arith in
        subst (λ (x : SlotState). need ≤ named_silences x.silences) same
        (subst (λ (o : Option ℕ). need ≤ named_silences o) (sym is) le)

-- so enough silences stand in front of what is placed
enough_in_front : (s : SlotState) (own : ℕ) (n : NumberedTransmit) (count : ℕ) (one : PlacedTransmission)
    → placed_behind s own n count ≡ Ok one
    → IsEnough s.before (begins_with_data n.transmit) (before_behind own n.transmit) (one.start - s.end)
enough_in_front s own n count one e = by (paused s (needed s own n.transmit)) refl e
  where
    by : (p : Result SlotState Refusal) → paused s (needed s own n.transmit) ≡ p
        → placed_behind_pause p s.packet n.statement count ≡ Ok one
        → IsEnough s.before (begins_with_data n.transmit) (before_behind own n.transmit) (one.start - s.end)
    by (Err fault) q e = absurd (cc)
    by (Ok r) q e =
        let many : needed s own n.transmit ≤ named_silences r.silences =
        paused_named s r s.silences (needed s own n.transmit) refl q in
        let start : one.start ≡ s.end + named_silences r.silences =
        placed_start s r own n count one q e in
        enough_of s.before s.silences (begins_with_data n.transmit) (before_behind own n.transmit) (one.start - s.end)
        (omega (arith, many, start))

-- 2. One slot.

-- this holds of the last of these, where there is any
LastHolds : (PlacedTransmission → Type 0) → List PlacedTransmission → Type 0
LastHolds P [] = Unit {0}
LastHolds P (p ∷ []) = P p
LastHolds P (p ∷ q ∷ placed) = LastHolds P (q ∷ placed)

last_more : (P : PlacedTransmission → Type 0) (placed : List PlacedTransmission) (one : PlacedTransmission) → P one
    → LastHolds P (placed ++ one ∷ [])
unfolding LastHolds
last_more P [] one h = h
last_more P (p ∷ []) one h = h
last_more P (p ∷ q ∷ placed) one h = last_more P (q ∷ placed) one h

apart_more : (all : List NumberedStatement) (own : ℕ) (placed : List PlacedTransmission) (one : PlacedTransmission)
    → ArePausedBetween all own placed → LastHolds (λ (p : PlacedTransmission). IsPausedBetween all own p one) placed
    → ArePausedBetween all own (placed ++ one ∷ [])
unfolding LastHolds
apart_more all own [] one a l = tt
apart_more all own (p ∷ []) one a l = (l, tt)
apart_more all own (p ∷ q ∷ placed) one a l = (a.0, apart_more all own (q ∷ placed) one a.1 l)

last_weaker : (P Q : PlacedTransmission → Type 0) (placed : List PlacedTransmission) → ((p : PlacedTransmission) → P p → Q p)
    → LastHolds P placed → LastHolds Q placed
unfolding LastHolds
last_weaker P Q [] f h = tt
last_weaker P Q (p ∷ []) f h = f p h
last_weaker P Q (p ∷ q ∷ placed) f h = last_weaker P Q (q ∷ placed) f h

-- it is the last transmission of a slot that stands so
record IsLastOf (all : List NumberedStatement) (own : ℕ) (s : SlotState) (p : PlacedTransmission) : Type 0 where
  end : p.start + p.length ≡ s.end
  before_is : (t : Transmit) → transmit_in all p.statement ≡ Some t → s.before ≡ before_behind own t

-- what is planned of a slot pauses
record IsPausing (all : List NumberedStatement) (own : ℕ) (x : SlotSoFar) : Type 0 where
  apart : ArePausedBetween all own x.placed
  last : LastHolds (IsLastOf all own x.state) x.placed

-- silences leave what stands in front as it is
silenced_before : (s r : SlotState) (count : ℕ) → silenced s count ≡ Ok r → r.before ≡ s.before
silenced_before s r count e = by (nat_lt (1048576 - stands s) count) e
  where
    by : (long : Bool)
        → (if long then Err refusal.TooLong else Ok (record s { silences = Some (named_silences s.silences + count) })) ≡ Ok r
        → r.before ≡ s.before
    by true e = absurd (cc)
    by false e =
        let same : record s { silences = Some (named_silences s.silences + count) } ≡ r = cc in
        ap (λ (x : SlotState). x.before) (sym same)

silenced_to_before : (s r : SlotState) (frame : ℕ) → silenced_to s frame ≡ Ok r → r.before ≡ s.before
silenced_to_before s r frame e = by (nat_lt frame (stands s)) e
  where
    by : (past : Bool)
        → (if past then Err (refusal.FramePassed frame (stands s)) else silenced s (frame - stands s)) ≡ Ok r
        → r.before ≡ s.before
    by true e = absurd (cc)
    by false e = silenced_before s r (frame - stands s) e

pausing_kept : (all : List NumberedStatement) (own : ℕ) (old new : SlotSoFar) → new.placed ≡ old.placed
    → new.state.end ≡ old.state.end → new.state.before ≡ old.state.before → IsPausing all own old → IsPausing all own new
pausing_kept all own old new e end before_same p = record {
  apart = subst (ArePausedBetween all own) (sym e) p.apart;
  last = subst (LastHolds (IsLastOf all own new.state)) (sym e)
      (last_weaker (IsLastOf all own old.state) (IsLastOf all own new.state) old.placed
      (λ q l. record { end = l.end ∙ sym end; before_is = λ t there. before_same ∙ l.before_is t there }) p.last);
}

-- a transmission is one
same_transmit : (all : List NumberedStatement) (at : ℕ) (t u : Transmit) → transmit_in all at ≡ Some t → transmit_in all at ≡ Some u
    → t ≡ u
same_transmit all at t u p q = cc (p, q)

pausing_more : (all : List NumberedStatement) (own : ℕ) (n : NumberedTransmit) (old new : SlotSoFar)
    → transmit_in all n.statement ≡ Some n.transmit → IsTransmitted all own n old new → IsPausing all own old
    → IsPausing all own new
pausing_more all own n old new there t p =
    let one : PlacedTransmission = t.one in
    let count : ℕ = count_behind all old.state n.transmit in
    let next : IsNextThere old.state n.statement count one = next_there old.state own n count one t.next.is in
    let here : transmit_in all one.statement ≡ Some n.transmit = ap (λ (at : ℕ). transmit_in all at) next.statement ∙ there in
    let enough : IsEnough old.state.before (begins_with_data n.transmit) (before_behind own n.transmit)
    (one.start - old.state.end) = enough_in_front old.state own n count one t.next.is in
    let between : (q : PlacedTransmission) → IsLastOf all own old.state q → IsPausedBetween all own q one = λ q l f u first second.
    let same : n.transmit ≡ u = same_transmit all one.statement n.transmit u here second in
    let end = l.end in
    subst (λ (x : Transmit). IsEnoughBetween own f x (one.start - (q.start + q.length))) same
    (subst (λ (e : ℕ). IsEnoughBetween own f n.transmit (one.start - e)) (sym end)
    (subst (λ (b : Before). IsEnough b (begins_with_data n.transmit) (before_behind own n.transmit)
    (one.start - old.state.end)) (l.before_is f first) enough)) in
    let last : IsLastOf all own new.state one = record {
      end = sym (ap (λ (s : SlotState). s.end) t.state);
      before_is = λ f first.
          ap (λ (s : SlotState). s.before) t.state
          ∙ ap (λ (x : Transmit). before_behind own x) (same_transmit all one.statement n.transmit f here first);
    } in
    record {
      apart = subst (ArePausedBetween all own) (sym t.placed)
          (apart_more all own old.placed one p.apart
          (last_weaker (IsLastOf all own old.state) (λ (q : PlacedTransmission). IsPausedBetween all own q one) old.placed between
          p.last));
      last = subst (LastHolds (IsLastOf all own new.state)) (sym t.placed)
          (last_more (IsLastOf all own new.state) old.placed one last);
    }

-- 3. Both slots.

-- what is planned of both slots pauses
record ArePausing (all : List NumberedStatement) (own : ℕ) (p : Planned) : Type 0 where
  first : IsPausing all own p.first
  second : IsPausing all own p.second

slot_pauses : (all : List NumberedStatement) (own : ℕ) (slot : Slot) (p : Planned) → ArePausing all own p
    → IsPausing all own (planned_slot slot p)
slot_pauses all own One p f = f.first
slot_pauses all own Two p f = f.second

with_pausing : (all : List NumberedStatement) (own : ℕ) (slot : Slot) (old new : Planned) (x : SlotSoFar) → IsPausing all own x
    → ArePausing all own old → new ≡ with_slot slot old x → ArePausing all own new
with_pausing all own One old new x f p e = subst (ArePausing all own) (sym e) (record { first = f; second = p.second })
with_pausing all own Two old new x f p e = subst (ArePausing all own) (sym e) (record { first = p.first; second = f })

step_pauses : (all : List NumberedStatement) (own : ℕ) (taken : Bool) (at line : ℕ) (s : Statement) (old new : Planned)
    → transmit_in all at ≡ transmit_of s → Plans all own taken at line s old new → ArePausing all own old
    → ArePausing all own new
step_pauses all own taken at line (statement.Colour colour) old new there p f = subst (ArePausing all own) (sym p) f
step_pauses all own taken at line (statement.Slot slot) old new there p f =
    subst (ArePausing all own) (sym p) (record { first = f.first; second = f.second })
step_pauses all own taken at line (statement.Silence count) old new there p f =
    let was : SlotSoFar = planned_slot old.slot old in
    with_pausing all own old.slot old new p.0 (pausing_kept all own was p.0 p.1.placed
    (silenced_end was.state p.0.state count p.1.state) (silenced_before was.state p.0.state count p.1.state)
    (slot_pauses all own old.slot old f)) f p.2
step_pauses all own taken at line (statement.At frame) old new there p f =
    let was : SlotSoFar = planned_slot old.slot old in
    with_pausing all own old.slot old new p.0 (pausing_kept all own was p.0 p.1.placed
    (silenced_to_end was.state p.0.state frame p.1.state) (silenced_to_before was.state p.0.state frame p.1.state)
    (slot_pauses all own old.slot old f)) f p.2
step_pauses all own taken at line (statement.Frames count) old new there p f =
    subst (ArePausing all own) (sym p.1) (record { first = f.first; second = f.second })
step_pauses all own taken at line (statement.Transmit t) old new there p f =
    let was : SlotSoFar = planned_slot old.slot old in
    with_pausing all own old.slot old new p.0 (pausing_more all own (transmit_at at line t) was p.0 there p.1
    (slot_pauses all own old.slot old f)) f p.2
step_pauses all own taken at line (statement.Send s) old new there p f =
    subst (ArePausing all own) (sym p.2) (record { first = f.first; second = f.second })

pausing : (all : List NumberedStatement) (own : ℕ) (taken : Bool) (at : ℕ) (p : Planned) → ArePlanned all own taken at p
    → ArePausing all own p
unfolding LastHolds
pausing all own taken zero p e = subst (ArePausing all own) (sym e) (record {
  first = record { apart = tt; last = tt };
  second = record { apart = tt; last = tt };
})
pausing all own taken (suc at) p q =
    step_pauses all own taken at q.1.line q.1.statement q.0 p
    (ap (λ (o : Option NumberedStatement). option_and_then (λ (x : NumberedStatement). transmit_of x.statement) o) q.2) q.4
    (pausing all own taken at q.0 q.3)

-- The transmissions of a plan stand apart in both slots.
pub pauses : (all : List NumberedStatement) (own : ℕ) (taken : Bool) (at : ℕ) (p : Planned) → ArePlanned all own taken at p
    → ArePausedBetween all own p.first.placed × ArePausedBetween all own p.second.placed
pauses all own taken at p q = let f = pausing all own taken at p q in (f.first.apart, f.second.apart)
