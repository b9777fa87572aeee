-- What is read of a capture, and written of its outgoing list.
use Rattle.std.specs.Prelude.{◌≡◌, ◌⊎◌, ℕ, ◌+◌, ◌≤◌, List, [], ◌∷◌, ◌++◌, Option, length}
use Rattle.std.specs.Io.KnownBytes.{Appends, Consumes, IsAtEnd}
use Rattle.std.specs.List.{AllByRecursion}
use Rattle.dmr_capture.specs.Reading.{AreRead, IsReadTo, ShowsBeginFault, ShowsFault}
use Rattle.dmr_capture.specs.State.{CaptureState, CapturedPacket}
use Rattle.dmr_capture.specs.declared.fault.CaptureFault.{CaptureFault}
use Rattle.dmr_capture.specs.declared.fault.CaptureFault.TheVariants.{TooLong}
use Rattle.dmr_record.specs.Devices.{Tears}
use Rattle.dmr_record.specs.Head.{record_limit}
use Rattle.dmr_record.specs.Outgoing.{AreInFrameOrder, IsSending, Sending, outgoing_file}
use Rattle.dmr_datagrams.specs.Sendings.{IsPastList, imported, no_progress, progress_behind}
use Rattle.dmr_datagrams.specs.declared.ends.ImportedDatagrams.{ImportedDatagrams}
use Rattle.dmr_datagrams.specs.declared.progress.ImportSettings.{ImportSettings}

-- These are records of an outgoing list, in their order, and no more than that may have.
pub record AreSendings (sendings : List Sending) : Type 0 where
  pub each : AllByRecursion IsSending sendings
  pub order : AreInFrameOrder 0 sendings
  pub few : length sendings ≤ record_limit

-- A capture was read up to this state, and the list of its packets so far was written. It can be read.
pub record AreImported (settings : ImportSettings) (state : CaptureState) (packets : List CapturedPacket)
    (left left' held held' : Option (List ℕ)) : Type 0 where
  pub read : IsReadTo state packets left left'
  pub list : AreSendings (imported settings packets)
  pub written : Appends held held' (outgoing_file (imported settings packets))

-- A capture was read to its end, and its list was written.
pub record IsCaptureImported (settings : ImportSettings) (counted : ImportedDatagrams) (left left' held held' : Option (List ℕ))
    : Type 0 where
  pub state : CaptureState
  pub packets : List CapturedPacket
  pub each : AreImported settings state packets left left' held held'
  pub end : IsAtEnd left'
  pub records : counted.records ≡ length (imported settings packets)
  pub other : counted.records + counted.other ≡ length packets

-- The begin of a capture shows this fault, and nothing was written.
pub record IsBeginFault (fault : CaptureFault) (left left' held held' : Option (List ℕ)) : Type 0 where
  pub taken : List ℕ
  pub read : Consumes left left' taken
  pub shown : ShowsBeginFault fault taken
  pub written : held' ≡ held

-- These packets were read and their list written, and the octets behind them show this fault.
pub record IsPieceFault (settings : ImportSettings) (fault : CaptureFault) (left left' held held' : Option (List ℕ)) : Type 0 where
  pub state : CaptureState
  pub behind : CaptureState
  pub packets : List CapturedPacket
  pub left_mid : Option (List ℕ)
  pub each : AreImported settings state packets left left_mid held held'
  pub octets : List ℕ
  pub part : List ℕ
  pub read : Consumes left_mid left' (octets ++ part)
  pub passed : AreRead state octets behind []
  pub shown : ShowsFault behind fault part

-- The same, and there is no room for the record of the packet behind them.
pub record IsLimitFault (settings : ImportSettings) (fault : CaptureFault) (left left' held held' : Option (List ℕ)) : Type 0 where
  pub state : CaptureState
  pub behind : CaptureState
  pub packets : List CapturedPacket
  pub left_mid : Option (List ℕ)
  pub each : AreImported settings state packets left left_mid held held'
  pub past : CapturedPacket
  pub octets : List ℕ
  pub read : Consumes left_mid left' octets
  pub next : AreRead state octets behind (past ∷ [])
  pub shown : IsPastList settings (progress_behind settings no_progress packets) past
  pub long : fault ≡ TooLong past.octet

-- A capture is at fault.
abbrev pub IsImportFault : ImportSettings → CaptureFault → (left left' held held' : Option (List ℕ)) → Type 0
IsImportFault settings fault left left' held held' = IsBeginFault fault left left' held held'
    ⊎ IsPieceFault settings fault left left' held held'
    ⊎ IsLimitFault settings fault left left' held held'

-- The list of these packets wasn't written to its end: the sink took a front of it.
pub record IsListTorn (settings : ImportSettings) (left left' held held' : Option (List ℕ)) : Type 0 where
  pub state : CaptureState
  pub packets : List CapturedPacket
  pub read : IsReadTo state packets left left'
  pub list : AreSendings (imported settings packets)
  pub written : Tears held held' (outgoing_file (imported settings packets))
