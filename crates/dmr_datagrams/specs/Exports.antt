-- What is read of a received list, and written of its capture.
use Rattle.std.specs.Prelude.{◌≡◌, ◌⊎◌, ℕ, List, Option, None, length}
use Rattle.std.specs.Io.KnownBytes.{Appends, Consumes, IsAtEnd}
use Rattle.std.specs.List.{AllByRecursion}
use Rattle.dmr_record.specs.Devices.{Tears}
use Rattle.dmr_record.specs.Head.{ShowsHeadFault, received_magic}
use Rattle.dmr_record.specs.Received.{FollowEachOther, Follows, IsReadable, Receipt, ShowsReceivedFault, last_fields}
use Rattle.dmr_record.specs.Received.{received_fields}
use Rattle.dmr_record.specs.Received.{receipt_octets, received_file, received_limit}
use Rattle.dmr_record.specs.declared.fault.RecordFault.TheVariants.{TooLong}
use Rattle.dmr_recording.specs.declared.fault_line.FaultLine.{FaultLine}
use Rattle.dmr_capture.specs.Written.{IsWritable, written_capture}
use Rattle.dmr_datagrams.specs.Packets.{IsLate, exported}
use Rattle.dmr_datagrams.specs.declared.ends.ExportedDatagrams.{ExportedDatagrams}
use Rattle.dmr_datagrams.specs.declared.wanted.ExportSettings.{ExportSettings}

-- These are records of a received list, in their order.
pub record AreReceipts (receipts : List Receipt) : Type 0 where
  pub readable : AllByRecursion IsReadable receipts
  pub order : FollowEachOther None receipts

-- These records of a list were read, head and all, and their capture was written. It can be read.
pub record AreExported (settings : ExportSettings) (receipts : List Receipt) (left left' held held' : Option (List ℕ)) : Type 0
  where
    pub are : AreReceipts receipts
    pub read : Consumes left left' (received_file receipts)
    pub fit : AllByRecursion IsWritable (exported settings receipts)
    pub written : Appends held held' (written_capture (exported settings receipts))

-- A list was read to its end, and its capture was written.
pub record IsListExported (settings : ExportSettings) (counted : ExportedDatagrams) (left left' held held' : Option (List ℕ))
    : Type 0 where
  pub list : List Receipt
  pub each : AreExported settings list left left' held held'
  pub end : IsAtEnd left'
  pub records : counted.records ≡ length list
  pub packets : counted.written ≡ length (exported settings list)

-- The head of a list shows this fault, and nothing was written.
pub record IsListHeadFault (fault : FaultLine) (left left' held held' : Option (List ℕ)) : Type 0 where
  pub taken : List ℕ
  pub read : Consumes left left' taken
  pub shown : ShowsHeadFault received_magic fault.fault taken
  pub octet : fault.octet ≡ 0
  pub written : held' ≡ held

-- These records were read and their capture written, and the octets behind them show this fault, at the octet where they begin.
pub record IsListRecordFault (settings : ExportSettings) (fault : FaultLine) (left left' held held' : Option (List ℕ)) : Type 0
  where
    pub list : List Receipt
    pub left_mid : Option (List ℕ)
    pub each : AreExported settings list left left_mid held held'
    pub part : List ℕ
    pub read : Consumes left_mid left' part
    pub shown : ShowsReceivedFault received_limit (length list) (last_fields None list) fault.fault part
    pub octet : fault.octet ≡ length (received_file list)

-- The same, and the record behind them came later than a capture can say.
pub record IsTimeFault (settings : ExportSettings) (fault : FaultLine) (left left' held held' : Option (List ℕ)) : Type 0 where
  pub list : List Receipt
  pub left_mid : Option (List ℕ)
  pub each : AreExported settings list left left_mid held held'
  pub late : Receipt
  pub readable : IsReadable late
  pub follows : Follows (last_fields None list) (received_fields late)
  pub read : Consumes left_mid left' (receipt_octets late)
  pub shown : IsLate settings late
  pub long : fault.fault ≡ TooLong
  pub octet : fault.octet ≡ length (received_file list)

-- A list is at fault. The fault has no place in a recording.
abbrev pub IsDatagramExportFault : ExportSettings → FaultLine → (left left' held held' : Option (List ℕ)) → Type 0
IsDatagramExportFault settings fault left left' held held' = (fault.place ≡ None)
    × (IsListHeadFault fault left left' held held'
    ⊎ IsListRecordFault settings fault left left' held held'
    ⊎ IsTimeFault settings fault left left' held held')

-- The capture of these records wasn't written to its end: the sink took a front of it.
pub record IsCaptureTorn (settings : ExportSettings) (left left' held held' : Option (List ℕ)) : Type 0 where
  pub list : List Receipt
  pub receipts : AreReceipts list
  pub read : Consumes left left' (received_file list)
  pub written : Tears held held' (written_capture (exported settings list))
