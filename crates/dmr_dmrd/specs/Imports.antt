-- What is read of a capture, and written of its recording.
use Rattle.std.specs.Prelude.{◌≡◌, ◌⊎◌, ℕ, ◌+◌, ◌≤◌, List, [], ◌∷◌, ◌++◌, Option}
use Rattle.std.specs.Io.KnownBytes.{Appends, Consumes, IsAtEnd}
use Rattle.dmr_capture.specs.Reading.{AreRead, IsReadTo, ShowsBeginFault, ShowsFault}
use Rattle.dmr_capture.specs.State.{CaptureState, CapturedPacket}
use Rattle.dmr_capture.specs.declared.fault.CaptureFault.{CaptureFault}
use Rattle.dmr_capture.specs.declared.fault.CaptureFault.TheVariants.{TooLong}
use Rattle.dmr_record.specs.Devices.{Tears}
use Rattle.dmr_record.specs.Head.{frame_limit}
use Rattle.dmr_record.specs.Uplink.{uplink_file}
use Rattle.dmr_dmrd.specs.Holding.{IsPastRecording, frames_held, recorded_frames, held_of_capture}
use Rattle.dmr_dmrd.specs.declared.counts.ImportedBursts.{ImportedBursts}
use Rattle.dmr_dmrd.specs.declared.hold.Hold.{Hold}
use Rattle.dmr_dmrd.specs.declared.hold.ImportSettings.{ImportSettings}

-- A capture was read up to this state. What is held of its packets so far has no more frames than a recording may have.
pub record AreHeld (settings : ImportSettings) (state : CaptureState) (packets : List CapturedPacket)
    (left left' : Option (List ℕ)) : Type 0 where
  pub read : IsReadTo state packets left left'
  pub few : frames_held (held_of_capture settings packets) ≤ frame_limit

-- A whole capture was read, and this is held of its packets.
pub record IsAllHeld (settings : ImportSettings) (hold : Hold) (left left' : Option (List ℕ)) : Type 0 where
  pub state : CaptureState
  pub packets : List CapturedPacket
  pub each : AreHeld settings state packets left left'
  pub end : IsAtEnd left'
  pub held : hold ≡ held_of_capture settings packets

-- The counts are of what is held.
pub record IsCountOf (hold : Hold) (counted : ImportedBursts) : Type 0 where
  pub frames : counted.frames ≡ frames_held hold
  pub slot_1 : counted.slot_1 ≡ hold.one.places.bursts
  pub slot_2 : counted.slot_2 ≡ hold.two.places.bursts
  pub lost : counted.lost ≡ hold.one.places.lost + hold.two.places.lost
  pub late : counted.late ≡ hold.one.places.late + hold.two.places.late
  pub other : counted.other ≡ hold.other

-- A capture was read to its end, and its recording was written.
pub record IsCaptureRecorded (settings : ImportSettings) (counted : ImportedBursts) (left left' held held' : Option (List ℕ))
    : Type 0 where
  pub hold : Hold
  pub all : IsAllHeld settings hold left left'
  pub written : Appends held held' (uplink_file (recorded_frames hold))
  pub counts : IsCountOf hold counted

-- The begin of a capture shows this fault.
pub record IsFaultOfBegin (fault : CaptureFault) (left left' : Option (List ℕ)) : Type 0 where
  pub taken : List ℕ
  pub read : Consumes left left' taken
  pub shown : ShowsBeginFault fault taken

-- These packets were read and held, and the octets behind them show this fault.
pub record IsFaultOfPiece (settings : ImportSettings) (fault : CaptureFault) (left left' : Option (List ℕ)) : Type 0 where
  pub state : CaptureState
  pub behind : CaptureState
  pub packets : List CapturedPacket
  pub left_mid : Option (List ℕ)
  pub each : AreHeld settings state packets left left_mid
  pub octets : List ℕ
  pub part : List ℕ
  pub read : Consumes left_mid left' (octets ++ part)
  pub passed : AreRead state octets behind []
  pub shown : ShowsFault behind fault part

-- The same, and the packet behind them asks for a frame past those that a recording may have.
pub record IsFaultOfLimit (settings : ImportSettings) (fault : CaptureFault) (left left' : Option (List ℕ)) : Type 0 where
  pub state : CaptureState
  pub behind : CaptureState
  pub packets : List CapturedPacket
  pub left_mid : Option (List ℕ)
  pub each : AreHeld settings state packets left left_mid
  pub past : CapturedPacket
  pub octets : List ℕ
  pub read : Consumes left_mid left' octets
  pub next : AreRead state octets behind (past ∷ [])
  pub shown : IsPastRecording settings (held_of_capture settings packets) past
  pub long : fault ≡ TooLong past.octet

-- A capture is at fault.
abbrev pub IsFaultOfCapture : ImportSettings → CaptureFault → (left left' : Option (List ℕ)) → Type 0
IsFaultOfCapture settings fault left left' = IsFaultOfBegin fault left left'
    ⊎ IsFaultOfPiece settings fault left left'
    ⊎ IsFaultOfLimit settings fault left left'

-- The recording of a whole capture wasn't written to its end: the sink took a front of it.
pub record IsRecordingTorn (settings : ImportSettings) (left left' held held' : Option (List ℕ)) : Type 0 where
  pub hold : Hold
  pub all : IsAllHeld settings hold left left'
  pub written : Tears held held' (uplink_file (recorded_frames hold))
