-- What is planned fits, and stands in order.
use Rattle.std.proofs.Common.{◌≡◌, ℕ, zero, suc, ◌+◌, ◌-◌, ◌<◌, ◌≤◌, nat_lt, List, [], ◌∷◌, ◌++◌, All, Option, Some, None}
use Rattle.std.proofs.Common.{IfSome}
use Rattle.std.proofs.Common.{arith, refl, subst, sym, ap, ◌∙◌, Bool, true, false, Result, Ok, Err, if◌then◌else◌, inl}
use Rattle.std.proofs.Common.{inr}
use Rattle.std.proofs.lemmas.List.Elements.{All-head, All-push, All-tail}
use Rattle.std.specs.Option.{option_and_then}
use Rattle.dmr_making.proofs.TrySlots.{fit_at}
use Rattle.dmr_making.specs.Playing.{IsFitPlaced, IsOrdered, packet_in, transmit_in, transmit_of}
use Rattle.dmr_making.specs.Senders.{IsSenderColour, IsSendable}
use Rattle.dmr_making.specs.declared.playing.PlacedTransmission.{PlacedTransmission}
use Rattle.dmr_planning.proofs.Fitting.{some_slots}
use Rattle.dmr_planning.specs.Pauses.{paused, paused_with, needed, silenced, silenced_to, stands, named_silences}
use Rattle.dmr_planning.specs.Planning.{ArePlanned, Planned, Plans, number_of_slot, planned_slot}
use Rattle.dmr_planning.specs.Planning.{told_frames, with_slot}
use Rattle.dmr_planning.specs.Plans.{HasSlot}
use Rattle.dmr_planning.specs.Slots.{IsTransmitted, NumberedTransmit, SlotSoFar}
use Rattle.dmr_planning.specs.Slots.{count_behind, last_packet, placed_paused, placed_behind, placed_behind_pause}
use Rattle.dmr_planning.specs.declared.planner.ToldFrames.{ToldFrames}
use Rattle.dmr_planning.specs.declared.slot_state.SlotState.{SlotState}
use Rattle.dmr_script.specs.Fits.{FitsNumbered, FitsSender, FitsStatement, FitsTransmit}
use Rattle.dmr_script.specs.declared.fault.Refusal.{Refusal}
use Rattle.dmr_script.specs.declared.fault.Refusal.TheVariants as refusal
use Rattle.dmr_script.specs.declared.fault.RefusedLine.{RefusedLine}
use Rattle.dmr_script.specs.declared.statement.NumberedStatement.{NumberedStatement}
use Rattle.dmr_script.specs.declared.statement.Sender.{Sender}
use Rattle.dmr_script.specs.declared.statement.Sender.TheVariants as sender
use Rattle.dmr_script.specs.declared.statement.Slot.{Slot}
use Rattle.dmr_script.specs.declared.statement.Slot.TheVariants.{One, Two}
use Rattle.dmr_script.specs.declared.statement.Statement.{Statement}
use Rattle.dmr_script.specs.declared.statement.Statement.TheVariants as statement
use Rattle.dmr_script.specs.declared.statement.Transmission.{Transmission}

-- 1. Order.

-- a transmission ends by this frame
abbrev pub EndsBy : ℕ → PlacedTransmission → Type 0
EndsBy end p = p.start + p.length ≤ end

-- one transmission more stands in order
pub ordered_more : (from : ℕ) (placed : List PlacedTransmission) (one : PlacedTransmission) → IsOrdered from placed
    → All (EndsBy one.start) placed → from ≤ one.start → 0 < one.length → IsOrdered from (placed ++ one ∷ [])
ordered_more from [] one o all le some = (le, some, tt)
ordered_more from (p ∷ placed) one o all le some = (
  o.0,
  o.1,
  ordered_more (p.start + p.length) placed one o.2 (All-tail (EndsBy one.start) p placed all)
      (All-head (EndsBy one.start) p placed all) some,
)

ends_later : (end later : ℕ) (placed : List PlacedTransmission) → end ≤ later → All (EndsBy end) placed → All (EndsBy later) placed
ends_later end later placed le all = λ k d lt. let h = all k d lt in omega (arith, le, h)

-- 2. Where a slot stands.

-- silences leave the last transmission where it is
pub silenced_end : (s r : SlotState) (count : ℕ) → silenced s count ≡ Ok r → r.end ≡ s.end
silenced_end s r count e = by (nat_lt (1048576 - stands s) count) e
  where
    by : (long : Bool)
        → (if long then Err refusal.TooLong else Ok (record s { silences = Some (named_silences s.silences + count) })) ≡ Ok r
        → r.end ≡ s.end
    by true e = absurd (cc)
    by false e =
        let same : record s { silences = Some (named_silences s.silences + count) } ≡ r = cc in
        ap (λ (x : SlotState). x.end) (sym same)

-- Silences up to a frame leave the end of the last transmission where it is.
pub silenced_to_end : (s r : SlotState) (frame : ℕ) → silenced_to s frame ≡ Ok r → r.end ≡ s.end
silenced_to_end s r frame e = by (nat_lt frame (stands s)) e
  where
    by : (past : Bool)
        → (if past then Err (refusal.FramePassed frame (stands s)) else silenced s (frame - stands s)) ≡ Ok r
        → r.end ≡ s.end
    by true e = absurd (cc)
    by false e = silenced_end s r (frame - stands s) e

paused_end : (s r : SlotState) (o : Option ℕ) (need : ℕ) → paused_with s o need ≡ Ok r → r.end ≡ s.end
paused_end s r None need e = silenced_end s r need e
paused_end s r (Some found) need e = by (nat_lt found need) e
  where
    by : (few : Bool) → (if few then Err (refusal.FewSilences found need s.line) else Ok s) ≡ Ok r → r.end ≡ s.end
    by true e = absurd (cc)
    by false e = let same : s ≡ r = cc in ap (λ (x : SlotState). x.end) (sym same)

-- where a transmission of so many slots is placed
record IsThere (paused : SlotState) (packet : Option ℕ) (at count : ℕ) (one : PlacedTransmission) : Type 0 where
  start : one.start ≡ stands paused
  length : one.length ≡ count
  statement : one.statement ≡ at
  packet_is : one.packet ≡ packet

placed_there : (r : SlotState) (packet : Option ℕ) (at count : ℕ) (one : PlacedTransmission)
    → placed_paused r packet at count ≡ Ok one → IsThere r packet at count one
placed_there r packet at count one e = by (nat_lt (1048576 - stands r) count) e
  where
    by : (long : Bool)
        → (if long
        then Err refusal.TooLong
        else Ok (record { statement = at; packet = packet; start = stands r; length = count })) ≡ Ok one
        → IsThere r packet at count one
    by true e = absurd (cc)
    by false e =
        let same : record { statement = at; packet = packet; start = stands r; length = count } ≡ one = cc in
        subst (IsThere r packet at count) same (record { start = refl; length = refl; statement = refl; packet_is = refl })

-- a transmission is placed no earlier than the last ends
pub record IsNextThere (s : SlotState) (at count : ℕ) (one : PlacedTransmission) : Type 0 where
  pub start : s.end ≤ one.start
  pub length : one.length ≡ count
  pub statement : one.statement ≡ at
  pub packet : one.packet ≡ s.packet

-- A transmission that is placed is the next of its slot.
pub next_there : (s : SlotState) (own : ℕ) (n : NumberedTransmit) (count : ℕ) (one : PlacedTransmission)
    → placed_behind s own n count ≡ Ok one → IsNextThere s n.statement count one
next_there s own n count one e = by (paused s (needed s own n.transmit)) refl e
  where
    by : (p : Result SlotState Refusal) → paused s (needed s own n.transmit) ≡ p
        → placed_behind_pause p s.packet n.statement count ≡ Ok one → IsNextThere s n.statement count one
    by (Err fault) q e = absurd (cc)
    by (Ok r) q e =
        let there : IsThere r s.packet n.statement count one = placed_there r s.packet n.statement count one e in
        let end : r.end ≡ s.end = paused_end s r s.silences (needed s own n.transmit) q in
        let start : one.start ≡ r.end + named_silences r.silences = there.start in
        record { start = omega (arith, end, start); length = there.length; statement = there.statement; packet = there.packet_is }

-- it is placed behind the silences of the pause
pub placed_start : (s r : SlotState) (own : ℕ) (n : NumberedTransmit) (count : ℕ) (one : PlacedTransmission)
    → paused s (needed s own n.transmit) ≡ Ok r → placed_behind_pause (Ok r) s.packet n.statement count ≡ Ok one
    → one.start ≡ s.end + named_silences r.silences
placed_start s r own n count one q e =
    let there : IsThere r s.packet n.statement count one = placed_there r s.packet n.statement count one e in
    let end : r.end ≡ s.end = paused_end s r s.silences (needed s own n.transmit) q in
    let start : one.start ≡ r.end + named_silences r.silences = there.start in
    omega (arith, end, start)

-- 3. What is planned of a slot.

-- The transmissions of a slot fit, and stand in order up to where it stands.
pub record IsSlotFit (all : List NumberedStatement) (x : SlotSoFar) : Type 0 where
  pub placed : All (IsFitPlaced all) x.placed
  pub ordered : IsOrdered 0 x.placed
  pub ends : All (EndsBy x.state.end) x.placed

fit_kept : (all : List NumberedStatement) (old new : SlotSoFar) → new.placed ≡ old.placed → new.state.end ≡ old.state.end
    → IsSlotFit all old → IsSlotFit all new
fit_kept all old new e end f = record {
  placed = subst (All (IsFitPlaced all)) (sym e) f.placed;
  ordered = subst (IsOrdered 0) (sym e) f.ordered;
  ends = subst (λ (n : ℕ). All (EndsBy n) new.placed) (sym end) (subst (All (EndsBy old.state.end)) (sym e) f.ends);
}

sender_fits : (s : Sender) (t : Transmission) → FitsSender s t → IsSenderColour s
sender_fits sender.Own t f = tt
sender_fits (sender.Foreign colour) t f = f.0

fit_more : (all : List NumberedStatement) (own : ℕ) (n : NumberedTransmit) (old new : SlotSoFar)
    → transmit_in all n.statement ≡ Some n.transmit → FitsTransmit n.transmit → IsTransmitted all own n old new
    → IsSlotFit all old → IsSlotFit all new
fit_more all own n old new there fits t f =
    let one : PlacedTransmission = t.one in
    let next : IsNextThere old.state n.statement (count_behind all old.state n.transmit) one =
    next_there old.state own n (count_behind all old.state n.transmit) one t.next.is in
    let start = next.start in
    let long = next.length in
    let many : 0 < count_behind all old.state n.transmit =
    some_slots n.transmit.transmission (last_packet all old.state) fits.transmission t.next.fits in
    let some : 0 < one.length = omega (arith, long, many) in
    let fit : IsFitPlaced all one = record {
      transmit = n.transmit;
      there = ap (λ (at : ℕ). transmit_in all at) next.statement ∙ there;
      sender = sender_fits n.transmit.sender n.transmit.transmission fits.sender;
      fit = subst (λ (p : Option ℕ). IsSendable (packet_in all p) n.transmit.transmission) (sym next.packet) t.next.sendable;
      some = some;
    } in
    let all_end : All (EndsBy one.start) old.placed = ends_later old.state.end one.start old.placed start f.ends in
    let end : new.state.end ≡ one.start + one.length = ap (λ (s : SlotState). s.end) t.state in
    record {
      placed = subst (All (IsFitPlaced all)) (sym t.placed) (All-push (IsFitPlaced all) old.placed one f.placed fit);
      ordered = subst (IsOrdered 0) (sym t.placed) (ordered_more 0 old.placed one f.ordered all_end (omega arith) some);
      ends = subst (λ (ps : List PlacedTransmission). All (EndsBy new.state.end) ps) (sym t.placed)
          (subst (λ (e : ℕ). All (EndsBy e) (old.placed ++ one ∷ [])) (sym end)
          (All-push (EndsBy (one.start + one.length)) old.placed one
          (ends_later one.start (one.start + one.length) old.placed (omega arith) all_end) (omega arith)));
    }

-- 4. All statements.

-- What is planned of both slots fits, and each record of the outgoing list has a slot.
pub record IsAllFit (all : List NumberedStatement) (p : Planned) : Type 0 where
  pub first : IsSlotFit all p.first
  pub second : IsSlotFit all p.second
  pub sends : All HasSlot p.sends
  pub told : IfSome p.told (λ (t : ToldFrames). t.count ≤ 1048576)

slot_fits : (all : List NumberedStatement) (slot : Slot) (p : Planned) → IsAllFit all p → IsSlotFit all (planned_slot slot p)
slot_fits all One p f = f.first
slot_fits all Two p f = f.second

with_fits : (all : List NumberedStatement) (slot : Slot) (old new : Planned) (x : SlotSoFar) → IsSlotFit all x → IsAllFit all old
    → new ≡ with_slot slot old x → IsAllFit all new
with_fits all One old new x fit f e =
    subst (IsAllFit all) (sym e) (record { first = fit; second = f.second; sends = f.sends; told = f.told })
with_fits all Two old new x fit f e =
    subst (IsAllFit all) (sym e) (record { first = f.first; second = fit; sends = f.sends; told = f.told })

number_is_slot : (slot : Slot) (at frame : ℕ) → HasSlot (record { statement = at; slot = number_of_slot slot; frame = frame })
number_is_slot One at frame = inl refl
number_is_slot Two at frame = inr refl

step_fits : (all : List NumberedStatement) (own : ℕ) (taken : Bool) (at line : ℕ) (s : Statement) (old new : Planned)
    → FitsStatement s → transmit_in all at ≡ transmit_of s → Plans all own taken at line s old new → IsAllFit all old
    → IsAllFit all new
step_fits all own taken at line (statement.Colour colour) old new fits there p f = subst (IsAllFit all) (sym p) f
step_fits all own taken at line (statement.Slot slot) old new fits there p f =
    subst (IsAllFit all) (sym p) (record { first = f.first; second = f.second; sends = f.sends; told = f.told })
step_fits all own taken at line (statement.Silence count) old new fits there p f =
    let was : SlotSoFar = planned_slot old.slot old in
    with_fits all old.slot old new p.0 (fit_kept all was p.0 p.1.placed (silenced_end was.state p.0.state count p.1.state)
    (slot_fits all old.slot old f)) f p.2
step_fits all own taken at line (statement.At frame) old new fits there p f =
    let was : SlotSoFar = planned_slot old.slot old in
    with_fits all old.slot old new p.0 (fit_kept all was p.0 p.1.placed (silenced_to_end was.state p.0.state frame p.1.state)
    (slot_fits all old.slot old f)) f p.2
step_fits all own taken at line (statement.Frames count) old new fits there p f =
    subst (IsAllFit all) (sym p.1) (record { first = f.first; second = f.second; sends = f.sends; told = p.0 })
step_fits all own taken at line (statement.Transmit t) old new fits there p f =
    let was : SlotSoFar = planned_slot old.slot old in
    let n : NumberedTransmit = record { statement = at; line = line; transmit = t } in
    with_fits all old.slot old new p.0 (fit_more all own n was p.0 there fits p.1 (slot_fits all old.slot old f)) f p.2
step_fits all own taken at line (statement.Send s) old new fits there p f =
    subst (IsAllFit all) (sym p.2) (record {
      first = f.first;
      second = f.second;
      sends = All-push HasSlot old.sends (record { statement = at; slot = number_of_slot old.slot; frame = s.frame }) f.sends
          (number_is_slot old.slot at s.frame);
      told = f.told;
    })

-- All that is planned fits, where all statements do.
pub planned_fits : (all : List NumberedStatement) (own : ℕ) (taken : Bool) (at : ℕ) (p : Planned) → All FitsNumbered all
    → ArePlanned all own taken at p → IsAllFit all p
planned_fits all own taken zero p fits e = subst (IsAllFit all) (sym e) (record {
  first = record { placed = λ k d lt. absurd (omega arith); ordered = tt; ends = λ k d lt. absurd (omega arith) };
  second = record { placed = λ k d lt. absurd (omega arith); ordered = tt; ends = λ k d lt. absurd (omega arith) };
  sends = λ k d lt. absurd (omega arith);
  told = tt;
})
planned_fits all own taken (suc at) p fits q =
    let old : Planned = q.0 in
    let s : NumberedStatement = q.1 in
    step_fits all own taken at s.line s.statement old p (fit_at FitsNumbered all at s fits q.2)
    (ap (λ (o : Option NumberedStatement). option_and_then (λ (x : NumberedStatement). transmit_of x.statement) o) q.2) q.4
    (planned_fits all own taken at old fits q.3)

-- as many frames as are told or needed
pub few_frames : (told : Option ToldFrames) (sent frames : ℕ) → IfSome told (λ (t : ToldFrames). t.count ≤ 1048576)
    → sent ≤ 1048576 → told_frames told sent ≡ Ok frames → frames ≤ 1048576
few_frames None sent frames few le e = let same : sent ≡ frames = cc in omega (arith, same)
few_frames (Some t) sent frames few le e =
    by (record { line = t.line; refusal = refusal.FewFrames t.count sent }) (nat_lt t.count sent) e
  where
    by : (refused : RefusedLine) (less : Bool) → (if less then Err refused else Ok t.count) ≡ Ok frames → frames ≤ 1048576
    by refused true e = absurd (cc)
    by refused false e = let same : t.count ≡ frames = cc in omega (arith, same, few)
