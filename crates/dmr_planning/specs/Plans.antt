-- Plans, and what is written by them.
use Rattle.std.specs.Prelude.{◌≡◌, ℕ, ◌+◌, ◌<◌, ◌≤◌, Bool, All, List, length, Option, None, Ok}
use Rattle.dmr_making.specs.Playing.{IsFitPlaced, IsOrdered, WritesRecording}
use Rattle.dmr_making.specs.declared.recording.BurstsMade.{BurstsMade}
use Rattle.dmr_planning.specs.Planning.{ArePlanned, Planned, told_frames, own_colour, sent_frames}
use Rattle.dmr_planning.specs.Sending.{AreInListOrder}
use Rattle.dmr_planning.specs.declared.plan.Made.{Made}
use Rattle.dmr_planning.specs.declared.plan.Plan.{Plan}
use Rattle.dmr_planning.specs.declared.sends.PlannedSend.{PlannedSend}
use Rattle.dmr_record.specs.Received.{IsSlot}
use Rattle.dmr_script.specs.Fits.{FitsNumbered}
use Rattle.dmr_script.specs.declared.script.Script.{Script}

-- the slot of a record is 1 or 2
abbrev pub HasSlot : PlannedSend → Type 0
HasSlot s = IsSlot s.slot

-- A plan fits: its numbers do, and the transmissions of each slot stand one behind another, within the frames.
pub record IsPlan (p : Plan) : Type 0 where
  pub statements : All FitsNumbered p.statements.now
  pub own : p.own < 16
  pub frames : p.frames ≤ 1048576
  pub first : All (IsFitPlaced p.statements.now) p.first.items
  pub second : All (IsFitPlaced p.statements.now) p.second.items
  pub first_ordered : IsOrdered 0 p.first.items
  pub second_ordered : IsOrdered 0 p.second.items
  pub sends : All HasSlot p.sends.items

-- A plan is the one that the statements of a script say: the own colour code that they name, what they place in both slots, as many
-- frames as they tell or need, and the records of the outgoing list in its order. No line of it was refused when it was read.
pub record IsPlanOf (script : Script) (taken : Bool) (p : Plan) : Type 0 where
  pub statements : p.statements.now ≡ script.statements.items
  pub read : script.refused ≡ None
  pub own : p.own ≡ own_colour script.statements.items
  pub planned : Planned
  pub planned_is : ArePlanned script.statements.items (own_colour script.statements.items) taken
      (length script.statements.items) planned
  pub first : p.first.items ≡ planned.first.placed
  pub second : p.second.items ≡ planned.second.placed
  pub frames : told_frames planned.told (sent_frames planned) ≡ Ok p.frames
  pub sends : AreInListOrder planned.sends p.sends.items

-- The recording of a plan was written, and this counts it: its frames, the bursts of both slots, its transmissions, and the records
-- of its outgoing list.
pub record WritesPlan (p : Plan) (made : Made) (old new : Option (List ℕ)) : Type 0 where
  pub counts : BurstsMade
  pub recording : WritesRecording p.own p.statements.now p.first.items p.second.items p.frames counts old new
  pub frames : made.frames ≡ p.frames
  pub first : made.first ≡ counts.first
  pub second : made.second ≡ counts.second
  pub transmissions : made.transmissions ≡ length p.first.items + length p.second.items
  pub datagrams : made.datagrams ≡ length p.sends.items
