-- What a slot of a recording sends, frame by frame, of the transmissions that are placed in it.
use Rattle.std.specs.Prelude.{◌≡◌, ℕ, suc, ◌+◌, ◌-◌, ◌<◌, ◌≤◌, All, List, [], ◌∷◌, ◌++◌, map, drop, length, replicate, slice_get}
use Rattle.std.specs.Prelude.{slice_index_or}
use Rattle.std.specs.Prelude.{Option, Some, None, option_and_then}
use Rattle.dmr_hearing.specs.Slots.{SentSlot, Silent}
use Rattle.dmr_making.specs.Made.{IsMade}
use Rattle.dmr_making.specs.Senders.{colour_of, IsSenderColour, IsSendable}
use Rattle.dmr_record.specs.Uplink.{UplinkSlots, IsFrame, frame_octets, frames_octets, uplink_file}
use Rattle.std.specs.List.{AllByRecursion, sum_by}
use Rattle.std.specs.Io.KnownBytes.{Appends}
use Rattle.dmr_record.specs.Devices.{Tears}
use Rattle.dmr_making.specs.Sends.{Transmitted, SendsSaid}
use Rattle.dmr_making.specs.Standing.{StandsAt}
use Rattle.dmr_making.specs.declared.playing.PlacedTransmission.{PlacedTransmission}
use Rattle.dmr_making.specs.declared.playing.Player.{Player}
use Rattle.dmr_making.specs.declared.recording.BurstsMade.{BurstsMade}
use Rattle.dmr_script.specs.declared.packet.PacketTry.{PacketTry}
use Rattle.dmr_script.specs.declared.statement.NumberedStatement.{NumberedStatement}
use Rattle.dmr_script.specs.declared.statement.Statement.{Statement}
use Rattle.dmr_script.specs.declared.statement.Statement.TheVariants as statement
use Rattle.dmr_script.specs.declared.statement.Transmission.{Transmission}
use Rattle.dmr_script.specs.declared.statement.Transmission.TheVariants as said
use Rattle.dmr_script.specs.declared.statement.Transmit.{Transmit}

-- 1. What a statement says.

-- the transmission that a statement is, where it is one
abbrev pub transmit_of : Statement → Option Transmit
transmit_of (statement.Transmit t) = Some t
transmit_of other = None

-- the transmission that the statement with this number is
abbrev pub transmit_in : List NumberedStatement → ℕ → Option Transmit
transmit_in statements at = option_and_then (λ (s : NumberedStatement). transmit_of s.statement) (slice_get statements at)

-- the packet of a full try
abbrev pub packet_said : Transmission → Option PacketTry
packet_said (said.Packet p) = Some p
packet_said other = None

-- the packet that the statement with this number says, where there is one
abbrev pub packet_in : List NumberedStatement → Option ℕ → Option PacketTry
packet_in statements None = None
packet_in statements (Some at) = option_and_then (λ (t : Transmit). packet_said t.transmission) (transmit_in statements at)

-- 2. A slot.

-- Frames of a slot, each with what is sent in it and the colour code that it is sent with.
abbrev pub SlotFrames : Type 0
SlotFrames = List (ℕ × SentSlot)

-- A transmission that is placed is one of the statements, and fits.
pub record IsFitPlaced (statements : List NumberedStatement) (p : PlacedTransmission) : Type 0 where
  pub transmit : Transmit
  pub there : transmit_in statements p.statement ≡ Some transmit
  pub sender : IsSenderColour transmit.sender
  pub fit : IsSendable (packet_in statements p.packet) transmit.transmission
  pub some : 0 < p.length

-- These frames send it.
pub record IsPlacedLine (own : ℕ) (statements : List NumberedStatement) (p : PlacedTransmission) (line : SlotFrames) : Type 0 where
  pub transmit : Transmit
  pub there : transmit_in statements p.statement ≡ Some transmit
  pub sent : Transmitted
  pub sends : SendsSaid (colour_of own transmit.sender) (packet_in statements p.packet) transmit.transmission sent
  pub count : length sent.slots ≡ p.length
  pub is : line ≡ map (λ slot. (colour_of own transmit.sender, slot)) sent.slots

-- From this frame on the slot sends these transmissions, each where it is placed, with silence in front of it.
abbrev pub IsLineOfSlot : ℕ → List NumberedStatement → ℕ → List PlacedTransmission → SlotFrames → Type 0
IsLineOfSlot own statements from [] line = line ≡ []
IsLineOfSlot own statements from (p ∷ placed) line =
    (mine : SlotFrames) × (rest : SlotFrames) × (from ≤ p.start) × IsPlacedLine own statements p mine
    × IsLineOfSlot own statements (p.start + p.length) placed rest
    × (line ≡ replicate (p.start - from) (own, Silent) ++ (mine ++ rest))

-- 3. Frame by frame.

-- what goes out in this frame for what is sent in it
abbrev pub IsMadeIn : ℕ → Option (List ℕ) → ℕ × SentSlot → Type 0
IsMadeIn frame made sent = IsMade sent.0 frame sent.1 made

-- what goes out in this frame for what stands in this place of a line: nothing does past its end
abbrev pub IsMadeAt : ℕ → Option (List ℕ) → SlotFrames → ℕ → Type 0
IsMadeAt frame made line place = StandsAt (IsMadeIn frame made) (made ≡ None) line place

-- those that haven't ended
abbrev pub still_placed : Player → List PlacedTransmission
still_placed p = drop p.at p.placed.now

-- the first of these hasn't ended before this frame
abbrev pub EndsLater : ℕ → List PlacedTransmission → Type 0
EndsLater frame [] = Unit {0}
EndsLater frame (p ∷ placed) = frame < p.start + p.length

-- A player stands in front of this frame: its line begins no later, and the first transmission of it hasn't ended.
pub record IsInFront (p : Player) (frame : ℕ) : Type 0 where
  pub begins : p.from ≤ frame
  pub ends : EndsLater frame (still_placed p)

-- The transmissions stand one behind another from this frame on, and each has a slot.
abbrev pub IsOrdered : ℕ → List PlacedTransmission → Type 0
IsOrdered from [] = Unit {0}
IsOrdered from (p ∷ placed) = (from ≤ p.start) × (0 < p.length) × IsOrdered (p.start + p.length) placed

-- What a player does in a frame, whose slot sends this line from where it stands: what goes out is made of it, and the player goes
-- on behind a front of the line.
pub record IsLineStep (old new : Player) (frame : ℕ) (made : Option (List ℕ)) (line : SlotFrames) : Type 0 where
  pub holds : IsMadeAt frame made line (frame - old.from)
  pub before : SlotFrames
  pub rest : SlotFrames
  pub split : line ≡ before ++ rest
  pub count : old.from + length before ≡ new.from
  pub goes_on : IsLineOfSlot old.own old.statements.now new.from (still_placed new) rest

-- 4. Both slots.

-- This frame has what goes out in it for what both slots send.
abbrev pub IsFrameMade : ℕ → SlotFrames → SlotFrames → UplinkSlots → Type 0
IsFrameMade frame first second slots =
    (one : Option (List ℕ)) × (two : Option (List ℕ)) × (slots ≡ one ∷ two ∷ [])
    × IsMadeAt frame one first frame × IsMadeAt frame two second frame

-- These frames do, from this one on.
abbrev pub AreFramesMade : ℕ → SlotFrames → SlotFrames → List UplinkSlots → Type 0
AreFramesMade frame first second [] = Unit {0}
AreFramesMade frame first second (slots ∷ frames) =
    IsFrameMade frame first second slots × AreFramesMade (suc frame) first second frames

-- A player stands in a line: the line from there on is what is left of it.
abbrev pub StandsInLine : Player → SlotFrames → Type 0
StandsInLine p line =
    (before : SlotFrames) × (rest : SlotFrames) × (line ≡ before ++ rest) × (length before ≡ p.from)
    × IsLineOfSlot p.own p.statements.now p.from (still_placed p) rest

-- A player is ready for a frame: what is left is placed in order, fits, and hasn't ended before it.
pub record IsReady (p : Player) (frame : ℕ) : Type 0 where
  pub own : p.own < 16
  pub fit : All (IsFitPlaced p.statements.now) p.placed.now
  pub front : IsInFront p frame
  pub ordered : IsOrdered p.from (still_placed p)

-- A player sends the same transmissions as before, and what goes out in a frame is a step of any line that is left of it.
pub record IsPlayed (old new : Player) (frame : ℕ) (made : Option (List ℕ)) : Type 0 where
  pub own : new.own ≡ old.own
  pub statements : new.statements.now ≡ old.statements.now
  pub placed : new.placed.now ≡ old.placed.now
  pub step : (line : SlotFrames) → IsLineOfSlot old.own old.statements.now old.from (still_placed old) line
      → IsLineStep old new frame made line

-- one where a burst goes out, and else none
abbrev pub burst_count : Option (List ℕ) → ℕ
burst_count None = 0
burst_count (Some octets) = 1

-- how many bursts go out in this slot of these frames
abbrev pub bursts_of_slot : ℕ → List UplinkSlots → ℕ
bursts_of_slot number frames = sum_by (λ slots. burst_count (slice_index_or slots number None)) frames

-- So many bursts go out in both slots of these frames.
pub record AreBurstsCounted (counts : BurstsMade) (frames : List UplinkSlots) : Type 0 where
  pub first : counts.first ≡ bursts_of_slot 0 frames
  pub second : counts.second ≡ bursts_of_slot 1 frames

-- Both players play a frame with so many bursts, and it is written.
pub record PlaysFrame (first first_new second second_new : Player) (frame : ℕ) (counts : BurstsMade)
    (old new : Option (List ℕ)) : Type 0 where
  pub one : Option (List ℕ)
  pub two : Option (List ℕ)
  pub counted : AreBurstsCounted counts ((one ∷ two ∷ []) ∷ [])
  pub first_is : IsPlayed first first_new frame one
  pub second_is : IsPlayed second second_new frame two
  pub is : IsFrame (one ∷ two ∷ [])
  pub written : Appends old new (frame_octets (one ∷ two ∷ []))

-- What was written of both slots, from the first frame on up to so many: frames with what goes out for what these lines send, and
-- so many bursts.
pub record WritesFrames (first first_now second second_now : Player) (count : ℕ) (counts : BurstsMade)
    (old new : Option (List ℕ)) : Type 0 where
  pub frames : List UplinkSlots
  pub many : length frames ≡ count
  pub counted : AreBurstsCounted counts frames
  pub each : AllByRecursion IsFrame frames
  pub made : (one two : SlotFrames) → IsLineOfSlot first.own first.statements.now first.from (still_placed first) one
      → IsLineOfSlot second.own second.statements.now second.from (still_placed second) two
      → AreFramesMade 0 one two frames × StandsInLine first_now one × StandsInLine second_now two
  pub written : Appends old new (frames_octets frames)

-- The uplink file of a recording was written: so many frames, each with what goes out for what both slots send, whatever lines
-- that is, and with so many bursts.
pub record WritesRecording (own : ℕ) (statements : List NumberedStatement) (first second : List PlacedTransmission) (count : ℕ)
    (counts : BurstsMade) (old new : Option (List ℕ)) : Type 0 where
  pub frames : List UplinkSlots
  pub many : length frames ≡ count
  pub counted : AreBurstsCounted counts frames
  pub each : AllByRecursion IsFrame frames
  pub made : (one two : SlotFrames) → IsLineOfSlot own statements 0 first one → IsLineOfSlot own statements 0 second two
      → AreFramesMade 0 one two frames
  pub written : Appends old new (uplink_file frames)

-- Both players play a frame, and the sink fails within it.
pub record TearsMadeFrame (first first_new second second_new : Player) (frame : ℕ) (old new : Option (List ℕ)) : Type 0 where
  pub one : Option (List ℕ)
  pub two : Option (List ℕ)
  pub first_is : IsPlayed first first_new frame one
  pub second_is : IsPlayed second second_new frame two
  pub is : IsFrame (one ∷ two ∷ [])
  pub torn : Tears old new (frame_octets (one ∷ two ∷ []))

-- So many frames of both slots were written, and the sink failed within the next one.
pub record TearsFrames (first second : Player) (old new : Option (List ℕ)) : Type 0 where
  pub count : ℕ
  pub counts : BurstsMade
  pub first_now : Player
  pub first_next : Player
  pub second_now : Player
  pub second_next : Player
  pub middle : Option (List ℕ)
  pub first_ready : IsReady first_now count
  pub second_ready : IsReady second_now count
  pub whole : WritesFrames first first_now second second_now count counts old middle
  pub part : TearsMadeFrame first_now first_next second_now second_next count middle new

-- The sink failed: a front of the uplink file of some frames was written, each with what goes out for what both slots send.
pub record TearsRecording (own : ℕ) (statements : List NumberedStatement) (first second : List PlacedTransmission)
    (old new : Option (List ℕ)) : Type 0 where
  pub frames : List UplinkSlots
  pub each : AllByRecursion IsFrame frames
  pub made : (one two : SlotFrames) → IsLineOfSlot own statements 0 first one → IsLineOfSlot own statements 0 second two
      → AreFramesMade 0 one two frames
  pub torn : Tears old new (uplink_file frames)
