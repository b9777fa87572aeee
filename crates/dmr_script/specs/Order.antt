-- Which statements may stand behind others.
use Rattle.std.specs.Prelude.{◌≡◌, ℕ, ◌==◌, Bool, true, false, List, [], ◌∷◌, Option, Some, None, if◌then◌else◌}
use Rattle.dmr_script.specs.declared.fault.Refusal.{Refusal}
use Rattle.dmr_script.specs.declared.fault.Refusal.TheVariants.{ColourBehindSlot, FramesTwice, NoSlot, OwnColour}
use Rattle.dmr_script.specs.declared.order.Said.{Said}
use Rattle.dmr_script.specs.declared.statement.NumberedStatement.{NumberedStatement}
use Rattle.dmr_script.specs.declared.statement.Sender.{Sender}
use Rattle.dmr_script.specs.declared.statement.Sender.TheVariants.{Foreign, Own}
use Rattle.dmr_script.specs.declared.statement.Statement.{Statement}
use Rattle.dmr_script.specs.declared.statement.Statement.TheVariants as statement

-- in front of the first statement: the colour code is 1
abbrev pub said_nothing : Said
said_nothing = record { colour = 1; slot = false; frames = false }

-- what stands in a slot is refused where none was named
abbrev pub without_slot : Bool → Option Refusal
without_slot true = None
without_slot false = Some NoSlot

-- another colour code is refused where it is the own one
abbrev pub refused_sender : ℕ → Sender → Option Refusal
refused_sender own Own = None
refused_sender own (Foreign colour) = if colour == own then Some (OwnColour colour) else None

-- a transmission is refused for its slot, and then for its colour code
abbrev pub refused_transmit : Said → Sender → Option Refusal
refused_transmit said sender = if said.slot then refused_sender said.colour sender else Some NoSlot

-- Why a statement may not stand behind others. The own colour code stands in front of the first slot, the number of frames stands
-- once, and what stands in a slot stands behind a line that names one.
abbrev pub refused_behind : Said → Statement → Option Refusal
refused_behind said (statement.Colour colour) = if said.slot then Some ColourBehindSlot else None
refused_behind said (statement.Slot slot) = None
refused_behind said (statement.Frames n) = if said.frames then Some FramesTwice else None
refused_behind said (statement.Silence n) = without_slot said.slot
refused_behind said (statement.At frame) = without_slot said.slot
refused_behind said (statement.Send s) = without_slot said.slot
refused_behind said (statement.Transmit t) = refused_transmit said t.sender

-- what was said, with a statement more
abbrev pub said_with : Said → Statement → Said
said_with said (statement.Colour colour) = record said { colour = colour }
said_with said (statement.Slot slot) = record said { slot = true }
said_with said (statement.Frames n) = record said { frames = true }
said_with said (statement.Silence n) = said
said_with said (statement.At frame) = said
said_with said (statement.Send s) = said
said_with said (statement.Transmit t) = said

-- what was said, with all of these more
abbrev pub said_with_all : Said → List NumberedStatement → Said
said_with_all said [] = said
said_with_all said (s ∷ ss) = said_with_all (said_with said s.statement) ss

-- Each of these statements may stand behind those in front of it.
abbrev pub MayStandBehind : Said → List NumberedStatement → Type 0
MayStandBehind said [] = Unit {0}
MayStandBehind said (s ∷ ss) = (refused_behind said s.statement ≡ None) × MayStandBehind (said_with said s.statement) ss
