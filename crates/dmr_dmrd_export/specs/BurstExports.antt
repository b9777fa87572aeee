-- What is read of a downlink, and written of its capture.
use Rattle.std.specs.Prelude.{◌≡◌, ◌⊎◌, ℕ, ◌≤◌, List, [], ◌++◌, Option, Some, None, length, map, replicate, count_by, is_some}
use Rattle.std.specs.Io.KnownBytes.{Appends, Consumes, IsAtEnd}
use Rattle.std.specs.List.{AllByRecursion, flat_map}
use Rattle.dmr_capture.specs.Written.{IsWritable, written_capture}
use Rattle.dmr_listing.specs.ListingRules.{ListingTurn, begun}
use Rattle.dmr_record.specs.Devices.{Tears}
use Rattle.dmr_record.specs.Head.{ShowsHeadFault, downlink_magic, head_octets}
use Rattle.dmr_recording.specs.Places.{octet_behind, place_by_number}
use Rattle.dmr_recording.specs.Recordings.{IsSlotOf, RecordedSlot, ShowsSlotFaultOf, spelling}
use Rattle.dmr_recording.specs.declared.fault_line.FaultLine.{FaultLine}
use Rattle.dmr_recording.specs.declared.recording.Recording.TheVariants.{Downlink}
use Rattle.dmr_dmrd_export.specs.BurstPackets.{dmrd_packet}
use Rattle.dmr_dmrd_export.specs.Deciding.{AreDecided, AreMoreTorn, AreMoreWritten}
use Rattle.dmr_dmrd_export.specs.Repeats.{AreRepeated}
use Rattle.dmr_dmrd_export.specs.Streams.{AreStreamed, no_streams}
use Rattle.dmr_dmrd_export.specs.declared.burst.RepeatedBurst.{RepeatedBurst}
use Rattle.dmr_dmrd_export.specs.declared.counts.ExportedBursts.{ExportedBursts}
use Rattle.dmr_dmrd_export.specs.declared.packet.BurstPacket.{BurstPacket}
use Rattle.dmr_dmrd_export.specs.declared.settings.ExportSettings.{ExportSettings}
use Rattle.dmr_dmrd_export.specs.declared.state.ExportState.{ExportState}
use Rattle.dmr_dmrd_export.specs.declared.streams.BothStreams.{BothStreams}

-- 1. Slots.

-- These slots of a downlink were read behind its head, and these octets of the next one. They have these repeated bursts.
pub record AreBurstsRead (slots : List RecordedSlot) (part : List ℕ) (bursts : List (Option RepeatedBurst)) (turn : ListingTurn)
    (left left' : Option (List ℕ)) : Type 0 where
  pub each : AllByRecursion (IsSlotOf Downlink) slots
  pub octets : Consumes left left' (flat_map (spelling Downlink) slots ++ part)
  pub repeated : AreRepeated begun slots bursts turn

-- The octets behind these slots show this fault, where the record of the next slot begins.
pub record IsSlotFaultBehind (slots : List RecordedSlot) (part : List ℕ) (fault : FaultLine) : Type 0 where
  pub shown : ShowsSlotFaultOf Downlink (length slots) fault.fault part
  pub octet : fault.octet ≡ octet_behind (spelling Downlink) slots
  pub place : fault.place ≡ Some (place_by_number (length slots))

-- The slots were read, and the packets that are decided were written.
pub record AreSlotsTaken (settings : ExportSettings) (slots : List RecordedSlot) (part : List ℕ) (packets : List BurstPacket)
    (before after : ExportState) (left left' held held' : Option (List ℕ)) : Type 0 where
  pub bursts : List (Option RepeatedBurst)
  pub turn : ListingTurn
  pub read : AreBurstsRead slots part bursts turn left left'
  pub written : AreMoreWritten settings before bursts packets after held held'

-- All slots of a downlink were, up to its end.
pub record AreAllTaken (settings : ExportSettings) (counted : ExportedBursts) (before after : ExportState)
    (left left' held held' : Option (List ℕ)) : Type 0 where
  pub slots : List RecordedSlot
  pub packets : List BurstPacket
  pub taken : AreSlotsTaken settings slots [] packets before after left left' held held'
  pub records : counted.records ≡ count_by is_some slots
  pub count : counted.written ≡ length packets

-- Or those before a fault.
pub record AreTakenUpToFault (settings : ExportSettings) (fault : FaultLine) (before after : ExportState)
    (left left' held held' : Option (List ℕ)) : Type 0 where
  pub slots : List RecordedSlot
  pub part : List ℕ
  pub packets : List BurstPacket
  pub taken : AreSlotsTaken settings slots part packets before after left left' held held'
  pub shown : IsSlotFaultBehind slots part fault

-- Or the packets that are decided were torn.
pub record AreTakenAndTorn (settings : ExportSettings) (before : ExportState) (left left' held held' : Option (List ℕ)) : Type 0
  where
    pub slots : List RecordedSlot
    pub bursts : List (Option RepeatedBurst)
    pub turn : ListingTurn
    pub read : AreBurstsRead slots [] bursts turn left left'
    pub torn : AreMoreTorn settings before bursts held held'

-- 2. A downlink.

-- These slots were read behind the head of a downlink, and these octets of the next one, and the capture of their packets was
-- written: one for each repeated burst, in their order. It can be read.
pub record AreBurstsExported (settings : ExportSettings) (slots : List RecordedSlot) (part : List ℕ) (packets : List BurstPacket)
    (left left' held held' : Option (List ℕ)) : Type 0 where
  pub left_mid : Option (List ℕ)
  pub bursts : List (Option RepeatedBurst)
  pub turn : ListingTurn
  pub end : BothStreams
  pub head : Consumes left left_mid (head_octets downlink_magic)
  pub read : AreBurstsRead slots part bursts turn left_mid left'
  pub streamed : AreStreamed no_streams bursts (replicate 8 None) packets end
  pub fit : AllByRecursion IsWritable (map (dmrd_packet settings) packets)
  pub written : Appends held held' (written_capture (map (dmrd_packet settings) packets))

-- A downlink was read to its end, and its capture was written. The counts are those of its bursts, and of the packets.
pub record IsDownlinkExported (settings : ExportSettings) (counted : ExportedBursts) (left left' held held' : Option (List ℕ))
    : Type 0 where
  pub slots : List RecordedSlot
  pub packets : List BurstPacket
  pub each : AreBurstsExported settings slots [] packets left left' held held'
  pub end : IsAtEnd left'
  pub records : counted.records ≡ count_by is_some slots
  pub count : counted.written ≡ length packets

-- The head of a downlink shows this fault, and nothing was written.
pub record IsDownlinkHeadFault (fault : FaultLine) (left left' held held' : Option (List ℕ)) : Type 0 where
  pub taken : List ℕ
  pub read : Consumes left left' taken
  pub shown : ShowsHeadFault downlink_magic fault.fault taken
  pub octet : fault.octet ≡ 0
  pub place : fault.place ≡ None
  pub written : held' ≡ held

-- The capture of these slots was written, and the octets behind them show this fault.
pub record IsExportedUpToFault (settings : ExportSettings) (fault : FaultLine) (left left' held held' : Option (List ℕ)) : Type 0
  where
    pub slots : List RecordedSlot
    pub part : List ℕ
    pub packets : List BurstPacket
    pub each : AreBurstsExported settings slots part packets left left' held held'
    pub shown : IsSlotFaultBehind slots part fault

-- A downlink is at fault.
abbrev pub IsBurstExportFault : ExportSettings → FaultLine → (left left' held held' : Option (List ℕ)) → Type 0
IsBurstExportFault settings fault left left' held held' =
    IsDownlinkHeadFault fault left left' held held' ⊎ IsExportedUpToFault settings fault left left' held held'

-- Nothing was read of the next slot, or what shows a fault.
abbrev pub IsRestOfRead : List RecordedSlot → List ℕ → Type 0
IsRestOfRead slots part = (part ≡ []) ⊎ ((fault : FaultLine) × IsSlotFaultBehind slots part fault)

-- The capture of these slots wasn't written to its end. Silent slots followed them, as many as have come by then, and of all slots
-- but those that wait still, these are the packets. The sink took a front of their capture.
pub record IsBurstCaptureTorn (settings : ExportSettings) (left left' held held' : Option (List ℕ)) : Type 0 where
  pub slots : List RecordedSlot
  pub part : List ℕ
  pub left_mid : Option (List ℕ)
  pub bursts : List (Option RepeatedBurst)
  pub turn : ListingTurn
  pub silent : ℕ
  pub packets : List BurstPacket
  pub state : ExportState
  pub head : Consumes left left_mid (head_octets downlink_magic)
  pub read : AreBurstsRead slots part bursts turn left_mid left'
  pub rest : IsRestOfRead slots part
  pub few : silent ≤ 8
  pub decided : AreDecided (bursts ++ replicate silent None) packets state
  pub written : Tears held held' (written_capture (map (dmrd_packet settings) packets))
