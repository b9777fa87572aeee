-- The log of a whole recording: all frames that were read, and what was told of them.
use Rattle.std.specs.Prelude.{◌≡◌, ℕ, ◌≤◌, ◌⊎◌, List, [], ◌∷◌, ◌++◌, Option, Some, None, length, replicate}
use Rattle.std.specs.Io.KnownBytes.{Consumes}
use Rattle.std.specs.List.{flat_map, AllByRecursion}
use Rattle.dmr_listing.specs.ListingRules.{GivenInTurn, IsRefusedBehind}
use Rattle.dmr_log.specs.LogRules.{IsEndLogged, IsFrameLogged, recorded_burst}
use Rattle.dmr_log.specs.declared.log.FrameTold.{FrameTold}
use Rattle.dmr_log.specs.declared.log.LogState.{LogState}
use Rattle.dmr_log.specs.declared.recording_log.ReadAt.{ReadAt}
use Rattle.dmr_recording.specs.Places.{octet_behind, place_by_number}
use Rattle.dmr_recording.specs.Recordings.{IsSlotOf, RecordedSlot, ShowsSlotFaultOf, spelling}
use Rattle.dmr_recording.specs.declared.fault_line.FaultLine.{FaultLine}
use Rattle.dmr_recording.specs.declared.recording.Recording.TheVariants.{Uplink}

-- 1. Frames.

-- the frames of a recording: slot 1 and slot 2 of each
abbrev pub RecordedFrames : Type 0
RecordedFrames = List (RecordedSlot × RecordedSlot)

-- their slots, one behind the other
abbrev pub slots_of_frames : RecordedFrames → List RecordedSlot
slots_of_frames [] = []
slots_of_frames (frame ∷ frames) = frame.0 ∷ frame.1 ∷ slots_of_frames frames

-- Frames are taken one after another, and this is told of each.
abbrev pub Logs : LogState → RecordedFrames → List FrameTold → LogState → Type 0
Logs log [] told end = (told ≡ []) × (end ≡ log)
Logs log (frame ∷ frames) [] end = ⊥
Logs log (frame ∷ frames) (one ∷ told) end =
    (next : LogState) × IsFrameLogged log (recorded_burst frame.0) (recorded_burst frame.1) next × (one ≡ next.told)
    × Logs next frames told end

-- 2. What is read.

-- A slot shows this fault: its record begins at this octet, and these octets of it were taken.
pub record IsFaultOfSlot (at : ReadAt) (fault : FaultLine) (left_old left_new : Option (List ℕ)) : Type 0 where
  pub part : List ℕ
  pub octets : Consumes left_old left_new part
  pub shown : ShowsSlotFaultOf Uplink at.slots fault.fault part
  pub octet : fault.octet ≡ at.octet
  pub place : fault.place ≡ Some (place_by_number at.slots)

-- These frames of a recording were read behind its head, and perhaps slot 1 of the next frame, and these octets of the next slot.
-- The frames were taken, and what is told of them was given to a taker in turn, each once.
pub record AreFramesTaken {L : Type 0} (Takes : L → FrameTold → L → Type 0) (log_old : LogState) (frames : RecordedFrames)
    (begun : List RecordedSlot) (part : List ℕ) (log_new : LogState) (left_old left_new : Option (List ℕ)) (old new : L)
    : Type 0 where
  pub told : List FrameTold
  pub each : AllByRecursion (IsSlotOf Uplink) (slots_of_frames frames ++ begun)
  pub octets : Consumes left_old left_new (flat_map (spelling Uplink) (slots_of_frames frames ++ begun) ++ part)
  pub logged : Logs log_old frames told log_new
  pub given : GivenInTurn Takes old told new

-- The recording was read up to a slot that shows this fault: slot 1 of a frame, or slot 2 behind its slot 1. All whole frames
-- before it were taken.
pub record IsLoggedUpToFault {L : Type 0} (Takes : L → FrameTold → L → Type 0) (fault : FaultLine) (log_old log_new : LogState)
    (left_old left_new : Option (List ℕ)) (old new : L) : Type 0 where
  pub frames : RecordedFrames
  pub begun : List RecordedSlot
  pub part : List ℕ
  pub few : length begun ≤ 1
  pub taken : AreFramesTaken Takes log_old frames begun part log_new left_old left_new old new
  pub shown : ShowsSlotFaultOf Uplink (length (slots_of_frames frames ++ begun)) fault.fault part
  pub octet : fault.octet ≡ octet_behind (spelling Uplink) (slots_of_frames frames ++ begun)
  pub place : fault.place ≡ Some (place_by_number (length (slots_of_frames frames ++ begun)))

-- 3. What is told at the end.

-- so many silent frames
abbrev pub silent_frames : ℕ → RecordedFrames
silent_frames count = replicate count (None, None)

-- Five silent frames are taken, so that it is decided on the last five frames of a recording. Then the recording ends.
pub record IsRestTold {L : Type 0} (Takes : L → FrameTold → L → Type 0) (log_old log_new : LogState) (old new : L) : Type 0 where
  pub told : List FrameTold
  pub decided : LogState
  pub logged : Logs log_old (silent_frames 5) told decided
  pub ended : IsEndLogged decided log_new
  pub given : GivenInTurn Takes old (told ++ log_new.told ∷ []) new

-- 4. What is refused.

-- This is told next: of one frame more, whatever it holds, or of the end.
abbrev pub IsToldNext : LogState → FrameTold → Type 0
IsToldNext log told =
    ((slot_1 slot_2 : Option (List ℕ)) × (next : LogState) × IsFrameLogged log slot_1 slot_2 next × (told ≡ next.told))
    ⊎ ((ended : LogState) × IsEndLogged log ended × (told ≡ ended.told))

-- What is told of these frames was given to a taker in turn, and then it refused what is told next.
pub record IsRefusedIn {L : Type 0} (Takes Refuses : L → FrameTold → L → Type 0) (log : LogState) (frames : RecordedFrames)
    (old new : L) : Type 0 where
  pub told : List FrameTold
  pub decided : LogState
  pub refused : FrameTold
  pub logged : Logs log frames told decided
  pub next : IsToldNext decided refused
  pub given : IsRefusedBehind Takes Refuses old told refused new

-- All frames that could be read were told of, and the taker refused something that is told behind them.
pub record IsRefusedInRest {L : Type 0} (Takes Refuses : L → FrameTold → L → Type 0) (log : LogState) (old new : L) : Type 0 where
  pub frames : RecordedFrames
  pub told : List FrameTold
  pub read : LogState
  pub between : L
  pub logged : Logs log frames told read
  pub given : GivenInTurn Takes old told between
  pub silent : ℕ
  pub few : silent ≤ 5
  pub rest : IsRefusedIn Takes Refuses read (silent_frames silent) between new
