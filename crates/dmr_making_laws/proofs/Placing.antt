-- What a script plans is well placed.
use Rattle.std.proofs.Common.{◌≡◌, ℕ, zero, suc, ◌≤◌, nat_lt, Bool, true, false, List, [], ◌∷◌, All}
use Rattle.std.proofs.Common.{Option, Some, None, Ok, Err, arith, refl, ap, subst, sym, ◌∙◌, if◌then◌else◌}
use Rattle.std.specs.List.{AllByRecursion}
use Rattle.std.specs.Option.{option_and_then}
use Rattle.dmr_making.proofs.Seen.{all_append}
use Rattle.dmr_making.proofs.TrySlots.{fit_at}
use Rattle.dmr_making.specs.Playing.{packet_in, transmit_in, transmit_of}
use Rattle.dmr_making.specs.declared.playing.PlacedTransmission.{PlacedTransmission}
use Rattle.dmr_making_laws.proofs.OtherColours.{IsOtherThan}
use Rattle.dmr_making_laws.proofs.WellSaid.{IsWellPlaced, IsWellSaid}
use Rattle.dmr_planning.proofs.Planned.{IsNextThere, next_there}
use Rattle.dmr_planning.specs.Planning.{ArePlanned, Planned, Plans, planned_slot, sent_frames, told_frames, transmit_at, with_slot}
use Rattle.dmr_planning.specs.Slots.{IsTransmitted, NumberedTransmit, SlotSoFar, count_behind}
use Rattle.dmr_script.specs.Fits.{FitsNumbered, FitsStatement, FitsTransmit}
use Rattle.dmr_script.specs.declared.fault.Refusal.TheVariants as refusal
use Rattle.dmr_script.specs.declared.fault.RefusedLine.{RefusedLine}
use Rattle.dmr_script.specs.declared.packet.PacketTry.{PacketTry}
use Rattle.dmr_script.specs.declared.statement.NumberedStatement.{NumberedStatement}
use Rattle.dmr_script.specs.declared.statement.Slot.{Slot}
use Rattle.dmr_script.specs.declared.statement.Slot.TheVariants.{One, Two}
use Rattle.dmr_script.specs.declared.statement.Statement.{Statement}
use Rattle.dmr_script.specs.declared.statement.Statement.TheVariants as statement
use Rattle.dmr_script.specs.declared.statement.Transmit.{Transmit}

-- 1. One more.

-- each transmission of a script has another colour code, or is the own station's
abbrev pub AreOthers : ℕ → List NumberedStatement → Type 0
AreOthers own all = (at : ℕ) (t : Transmit) → transmit_in all at ≡ Some t → IsOtherThan own t.sender

-- a transmission is one
same_transmit : (all : List NumberedStatement) (at : ℕ) (t u : Transmit) → transmit_in all at ≡ Some t → transmit_in all at ≡ Some u
    → t ≡ u
same_transmit all at t u p q = cc (p, q)

one_placed : (own : ℕ) (all : List NumberedStatement) (n : NumberedTransmit) (old new : SlotSoFar) → AreOthers own all
    → transmit_in all n.statement ≡ Some n.transmit → FitsTransmit n.transmit → (t : IsTransmitted all own n old new)
    → IsWellPlaced own all t.one
one_placed own all n old new well there fits t u is =
    let one : PlacedTransmission = t.one in
    let next : IsNextThere old.state n.statement (count_behind all old.state n.transmit) one =
    next_there old.state own n (count_behind all old.state n.transmit) one t.next.is in
    let here : transmit_in all one.statement ≡ Some n.transmit = ap (λ (at : ℕ). transmit_in all at) next.statement ∙ there in
    let same : n.transmit ≡ u = same_transmit all one.statement n.transmit u here is in
    let packet : packet_in all old.state.packet ≡ packet_in all one.packet =
    ap (λ (p : Option ℕ). packet_in all p) (sym next.packet) in
    let w : IsWellSaid own (packet_in all old.state.packet) one n.transmit = record {
      fits = fits;
      sendable = t.next.sendable;
      other = well n.statement n.transmit there;
      count = next.length;
    } in
    subst (λ (x : Transmit). IsWellSaid own (packet_in all one.packet) one x) same
    (subst (λ (p : Option PacketTry). IsWellSaid own p one n.transmit) packet w)

well_more : (own : ℕ) (all : List NumberedStatement) (n : NumberedTransmit) (old new : SlotSoFar) → AreOthers own all
    → transmit_in all n.statement ≡ Some n.transmit → FitsTransmit n.transmit → IsTransmitted all own n old new
    → AllByRecursion (IsWellPlaced own all) old.placed → AllByRecursion (IsWellPlaced own all) new.placed
well_more own all n old new well there fits t p =
    subst (AllByRecursion (IsWellPlaced own all)) (sym t.placed)
    (all_append (IsWellPlaced own all) old.placed (t.one ∷ []) p (one_placed own all n old new well there fits t, tt))

-- 2. All of them.

-- both slots are well placed
pub record AreWellPlaced (own : ℕ) (all : List NumberedStatement) (p : Planned) : Type 0 where
  pub first : AllByRecursion (IsWellPlaced own all) p.first.placed
  pub second : AllByRecursion (IsWellPlaced own all) p.second.placed

slot_well : (own : ℕ) (all : List NumberedStatement) (slot : Slot) (p : Planned) → AreWellPlaced own all p
    → AllByRecursion (IsWellPlaced own all) (planned_slot slot p).placed
slot_well own all One p w = w.first
slot_well own all Two p w = w.second

with_well : (own : ℕ) (all : List NumberedStatement) (slot : Slot) (old new : Planned) (x : SlotSoFar)
    → AllByRecursion (IsWellPlaced own all) x.placed → AreWellPlaced own all old → new ≡ with_slot slot old x
    → AreWellPlaced own all new
with_well own all One old new x f w e = subst (AreWellPlaced own all) (sym e) (record { first = f; second = w.second })
with_well own all Two old new x f w e = subst (AreWellPlaced own all) (sym e) (record { first = w.first; second = f })

-- the same transmissions are
kept : (own : ℕ) (all : List NumberedStatement) (old new : List PlacedTransmission) → new ≡ old
    → AllByRecursion (IsWellPlaced own all) old → AllByRecursion (IsWellPlaced own all) new
kept own all old new e p = subst (AllByRecursion (IsWellPlaced own all)) (sym e) p

step_well : (own : ℕ) (all : List NumberedStatement) (taken : Bool) (at line : ℕ) (s : Statement) (old new : Planned)
    → AreOthers own all → FitsStatement s → transmit_in all at ≡ transmit_of s → Plans all own taken at line s old new
    → AreWellPlaced own all old → AreWellPlaced own all new
step_well own all taken at line (statement.Colour colour) old new well fits there p w = subst (AreWellPlaced own all) (sym p) w
step_well own all taken at line (statement.Slot slot) old new well fits there p w =
    subst (AreWellPlaced own all) (sym p) (record { first = w.first; second = w.second })
step_well own all taken at line (statement.Silence count) old new well fits there p w =
    with_well own all old.slot old new p.0
    (kept own all (planned_slot old.slot old).placed p.0.placed p.1.placed (slot_well own all old.slot old w)) w p.2
step_well own all taken at line (statement.At frame) old new well fits there p w =
    with_well own all old.slot old new p.0
    (kept own all (planned_slot old.slot old).placed p.0.placed p.1.placed (slot_well own all old.slot old w)) w p.2
step_well own all taken at line (statement.Frames count) old new well fits there p w =
    subst (AreWellPlaced own all) (sym p.1) (record { first = w.first; second = w.second })
step_well own all taken at line (statement.Transmit t) old new well fits there p w =
    with_well own all old.slot old new p.0
    (well_more own all (transmit_at at line t) (planned_slot old.slot old) p.0 well there fits p.1
    (slot_well own all old.slot old w)) w p.2
step_well own all taken at line (statement.Send s) old new well fits there p w =
    subst (AreWellPlaced own all) (sym p.2) (record { first = w.first; second = w.second })

-- What is planned of both slots is well placed.
pub planned_well : (own : ℕ) (all : List NumberedStatement) (taken : Bool) (at : ℕ) (p : Planned) → AreOthers own all
    → All FitsNumbered all → ArePlanned all own taken at p → AreWellPlaced own all p
planned_well own all taken zero p well fits e =
    subst (AreWellPlaced own all) (sym e) (record { first = tt; second = tt })
planned_well own all taken (suc at) p well fits q =
    step_well own all taken at q.1.line q.1.statement q.0 p well (fit_at FitsNumbered all at q.1 fits q.2)
    (ap (λ (o : Option NumberedStatement). option_and_then (λ (x : NumberedStatement). transmit_of x.statement) o) q.2) q.4
    (planned_well own all taken at q.0 well fits q.3)

-- 3. Their frames.

-- a recording has as many as are needed
enough : (told : _) (sent frames : ℕ) → told_frames told sent ≡ Ok frames → sent ≤ frames
enough None sent frames e = let same : sent ≡ frames = cc in omega (arith, same)
enough (Some t) sent frames e =
    by (record { line = t.line; refusal = refusal.FewFrames t.count sent }) (nat_lt t.count sent) refl e
  where
    by : (refused : RefusedLine) (less : Bool) → nat_lt t.count sent ≡ less
        → (if less then Err refused else Ok t.count) ≡ Ok frames → sent ≤ frames
    by refused true test e = absurd (cc)
    by refused false test e = let same : t.count ≡ frames = cc in let le : sent ≤ t.count = grind arith in omega (arith, same, le)

-- both slots end within them
pub record EndWithin (frames : ℕ) (p : Planned) : Type 0 where
  pub first : p.first.state.end ≤ frames
  pub second : p.second.state.end ≤ frames

-- Both slots end within the frames of the recording.
pub slots_within : (p : Planned) (frames : ℕ) → told_frames p.told (sent_frames p) ≡ Ok frames → EndWithin frames p
slots_within p frames e =
    let le = enough p.told (sent_frames p) frames e in
    record { first = omega (arith, le); second = omega (arith, le) }
