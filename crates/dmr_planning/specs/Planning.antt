-- What the statements of a script plan, one after another, and which of them can't be planned.
use Rattle.std.specs.Prelude.{◌≡◌, ℕ, zero, suc, ◌<◌, ◌≤◌, nat_lt, max, Bool, true, false, List, [], ◌∷◌, ◌++◌, length}
use Rattle.std.specs.Prelude.{slice_get}
use Rattle.std.specs.Prelude.{◌⊎◌, Option, Some, None, Result, Ok, Err, if◌then◌else◌}
use Rattle.dmr_planning.specs.Pauses.{empty_slot, silenced, silenced_to, stands}
use Rattle.dmr_planning.specs.Slots.{SlotSoFar, NumberedTransmit, IsSilenced, IsSilencedTo, IsTransmitted, IsUntransmitted}
use Rattle.dmr_planning.specs.Slots.{nothing_placed, so_far}
use Rattle.dmr_planning.specs.declared.fault.PlanFault.{PlanFault}
use Rattle.dmr_planning.specs.declared.fault.PlanFault.TheVariants as plan_fault
use Rattle.dmr_planning.specs.declared.planner.Planner.{Planner}
use Rattle.dmr_planning.specs.declared.planner.ToldFrames.{ToldFrames}
use Rattle.dmr_planning.specs.declared.sends.PlannedSend.{PlannedSend}
use Rattle.dmr_script.specs.declared.fault.Refusal.{Refusal}
use Rattle.dmr_script.specs.declared.fault.Refusal.TheVariants as refusal
use Rattle.dmr_script.specs.declared.fault.RefusedLine.{RefusedLine}
use Rattle.dmr_script.specs.declared.statement.NumberedStatement.{NumberedStatement}
use Rattle.dmr_script.specs.declared.statement.Slot.{Slot}
use Rattle.dmr_script.specs.declared.statement.Slot.TheVariants.{One, Two}
use Rattle.dmr_script.specs.declared.statement.Statement.{Statement}
use Rattle.dmr_script.specs.declared.statement.Statement.TheVariants as statement
use Rattle.dmr_script.specs.declared.statement.Transmit.{Transmit}

-- 1. What is planned.

-- What is planned of the statements so far: the slot that was named last, both slots, the number of frames where it was told, and
-- the records of the outgoing list by their lines.
pub record Planned : Type 0 where
  pub slot : Slot
  pub first : SlotSoFar
  pub second : SlotSoFar
  pub told : Option ToldFrames
  pub sends : List PlannedSend

-- what is planned by now
abbrev pub planned_by : Planner → Planned
planned_by p = record {
  slot = p.slot;
  first = so_far p.first;
  second = so_far p.second;
  told = p.told;
  sends = p.sends.items;
}

-- in front of the first statement
abbrev pub nothing_planned : Planned
nothing_planned = record {
  slot = One;
  first = nothing_placed empty_slot;
  second = nothing_placed empty_slot;
  told = None;
  sends = [];
}

-- what is planned of a slot
abbrev pub planned_slot : Slot → Planned → SlotSoFar
planned_slot One p = p.first
planned_slot Two p = p.second

-- the same plan with this in a slot
abbrev pub with_slot : Slot → Planned → SlotSoFar → Planned
with_slot One p s = record p { first = s }
with_slot Two p s = record p { second = s }

-- the number of a slot
abbrev pub number_of_slot : Slot → ℕ
number_of_slot One = 1
number_of_slot Two = 2

-- the own colour code behind a statement
abbrev pub colour_behind : ℕ → Statement → ℕ
colour_behind own (statement.Colour colour) = colour
colour_behind own _ = own

-- the own colour code behind these statements
abbrev pub colour_behind_all : ℕ → List NumberedStatement → ℕ
colour_behind_all own [] = own
colour_behind_all own (s ∷ ss) = colour_behind_all (colour_behind own s.statement) ss

-- The own colour code of a script: the one that it names, or 1.
abbrev pub own_colour : List NumberedStatement → ℕ
own_colour statements = colour_behind_all 1 statements

-- 2. Statement by statement.

-- This holds of the slot that was named last, before and behind a statement, which changes nothing else.
abbrev pub ChangesSlot : (SlotSoFar → SlotSoFar → Type 0) → Planned → Planned → Type 0
ChangesSlot Changes old new =
    (slot : SlotSoFar) × Changes (planned_slot old.slot old) slot × (new ≡ with_slot old.slot old slot)

-- a transmission in the statement with this number and this line
abbrev pub transmit_at : ℕ → ℕ → Transmit → NumberedTransmit
transmit_at at line t = record { statement = at; line = line; transmit = t }

-- The statement with this number, in this line, plans this. The flag says whether an outgoing list is made.
abbrev pub Plans : List NumberedStatement → ℕ → Bool → (at line : ℕ) → Statement → Planned → Planned → Type 0
Plans all own taken at line (statement.Colour colour) old new = new ≡ old
Plans all own taken at line (statement.Slot slot) old new = new ≡ record old { slot = slot }
Plans all own taken at line (statement.Silence count) old new = ChangesSlot (IsSilenced count) old new
Plans all own taken at line (statement.At frame) old new = ChangesSlot (IsSilencedTo frame) old new
Plans all own taken at line (statement.Frames count) old new =
    (count ≤ 1048576) × (new ≡ record old { told = Some (record { line = line; count = count }) })
Plans all own taken at line (statement.Transmit t) old new = ChangesSlot (IsTransmitted all own (transmit_at at line t)) old new
Plans all own taken at line (statement.Send s) old new =
    (taken ≡ true) × (length old.sends < 1048576)
    × (new ≡ record old {
      sends = old.sends ++ record { statement = at; slot = number_of_slot old.slot; frame = s.frame } ∷ [];
    })

-- Why a statement can't be planned behind others.
abbrev pub IsUnplanned : List NumberedStatement → ℕ → Bool → (at line : ℕ) → Statement → Planned → Refusal → Type 0
IsUnplanned all own taken at line (statement.Colour colour) old e = ⊥
IsUnplanned all own taken at line (statement.Slot slot) old e = ⊥
IsUnplanned all own taken at line (statement.Silence count) old e = silenced (planned_slot old.slot old).state count ≡ Err e
IsUnplanned all own taken at line (statement.At frame) old e = silenced_to (planned_slot old.slot old).state frame ≡ Err e
IsUnplanned all own taken at line (statement.Frames count) old e = (1048576 < count) × (e ≡ refusal.TooLong)
IsUnplanned all own taken at line (statement.Transmit t) old e =
    IsUntransmitted all own (transmit_at at line t) (planned_slot old.slot old).state e
IsUnplanned all own taken at line (statement.Send s) old e =
    ((taken ≡ false) × (e ≡ refusal.NoList))
    ⊎ ((taken ≡ true) × (1048576 ≤ length old.sends) × (e ≡ refusal.LongList))

-- The statements in front of the one with this number plan this.
abbrev pub ArePlanned : List NumberedStatement → ℕ → Bool → ℕ → Planned → Type 0
ArePlanned all own taken zero new = new ≡ nothing_planned
ArePlanned all own taken (suc at) new =
    (old : Planned) × (s : NumberedStatement) × (slice_get all at ≡ Some s) × ArePlanned all own taken at old
    × Plans all own taken at s.line s.statement old new

-- 3. Whole scripts.

-- Both slots stand within the frames that a recording has at most.
pub record AreSlotsWithin (p : Planned) : Type 0 where
  pub first : stands p.first.state ≤ 1048576
  pub second : stands p.second.state ≤ 1048576

-- where a line shows that there is no plan, this holds of it
abbrev pub IfRefusedLine : PlanFault → (RefusedLine → Type 0) → Type 0
IfRefusedLine (plan_fault.Refused refused) P = P refused
IfRefusedLine plan_fault.Memory P = Unit {0}

-- How many frames both slots need.
abbrev pub sent_frames : Planned → ℕ
sent_frames p = max (stands p.first.state) (stands p.second.state)

-- How many frames a recording has in which so many are sent: as many as are told, which may not be fewer.
abbrev pub told_frames : Option ToldFrames → ℕ → Result ℕ RefusedLine
told_frames None sent = Ok sent
told_frames (Some told) sent =
    if nat_lt told.count sent
    then Err (record { line = told.line; refusal = refusal.FewFrames told.count sent })
    else Ok told.count

-- The line of a statement shows why there is no plan: those in front of it are planned.
pub record IsLineUnplanned (all : List NumberedStatement) (own : ℕ) (taken : Bool) (refused : RefusedLine) : Type 0 where
  pub at : ℕ
  pub statement : NumberedStatement
  pub there : slice_get all at ≡ Some statement
  pub old : Planned
  pub front : ArePlanned all own taken at old
  pub shown : IsUnplanned all own taken at statement.line statement.statement old refused.refusal
  pub line : refused.line ≡ statement.line
