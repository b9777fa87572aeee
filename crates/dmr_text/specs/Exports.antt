-- What is read of a file, and written of its text.
use Rattle.std.specs.Prelude.{◌≡◌, ◌⊎◌, ℕ, ◌+◌, List, [], ◌++◌, Option, None, length}
use Rattle.std.specs.Io.KnownBytes.{Appends, Consumes, IsAtEnd}
use Rattle.dmr_recording.specs.declared.fault_line.FaultLine.{FaultLine}
use Rattle.dmr_record.specs.Devices.{Tears}
use Rattle.dmr_record.specs.Head.{ShowsAnyHeadFault}
use Rattle.dmr_record.specs.declared.head.FileFormat.{FileFormat}
use Rattle.dmr_text.specs.Behind.{IsReadBehind}
use Rattle.dmr_text.specs.Files.{AreRecords, File, HasWholeFrames, ShowsFaultBehind, carried_of, file_octets, file_format}
use Rattle.dmr_text.specs.Files.{open_text}
use Rattle.dmr_text.specs.Files.{place_behind, records_octets, file_text}
use Rattle.dmr_text.specs.declared.carried.Carried.{Carried}

-- A file was read to its end, and its text was written.
pub record IsExported (carried : Carried) (left_old left_new held_old held_new : Option (List ℕ)) : Type 0 where
  pub file : File
  pub records : AreRecords file
  pub whole : HasWholeFrames file
  pub read : Consumes left_old left_new (file_octets file)
  pub end : IsAtEnd left_new
  pub text : Appends held_old held_new (file_text file)
  pub counted : carried ≡ carried_of file

-- The head of a file shows this fault, and nothing was written.
pub record IsAtHeadFault (fault : FaultLine) (left_old left_new held_old held_new : Option (List ℕ)) : Type 0 where
  pub taken : List ℕ
  pub read : Consumes left_old left_new taken
  pub shown : ShowsAnyHeadFault fault.fault taken
  pub octet : fault.octet ≡ 0
  pub place : fault.place ≡ None
  pub text : held_new ≡ held_old

-- A file was read up to a record that shows this fault, and its text was written up to that record's line.
pub record IsAtRecordFault (fault : FaultLine) (left_old left_new held_old held_new : Option (List ℕ)) : Type 0 where
  pub file : File
  pub records : AreRecords file
  pub part : List ℕ
  pub read : Consumes left_old left_new (file_octets file ++ part)
  pub shown : ShowsFaultBehind file fault.fault part
  pub octet : fault.octet ≡ length (file_octets file)
  pub place : fault.place ≡ place_behind file
  pub text : Appends held_old held_new (open_text file)

-- A file is at fault: in its head, or behind it.
abbrev pub IsExportFault : FaultLine → (left_old left_new held_old held_new : Option (List ℕ)) → Type 0
IsExportFault fault left_old left_new held_old held_new =
    IsAtHeadFault fault left_old left_new held_old held_new ⊎ IsAtRecordFault fault left_old left_new held_old held_new

-- The text of the records of a file that were read wasn't written to its end: the sink took a front of it.
pub record IsTextTorn (left_old left_new held_old held_new : Option (List ℕ)) : Type 0 where
  pub file : File
  pub records : AreRecords file
  pub read : Consumes left_old left_new (file_octets file)
  pub text : Tears held_old held_new (file_text file)

-- What stands behind the head of a file of this format was read to its end, and the text of the file was written.
pub record IsExportedBehind (format : FileFormat) (carried : Carried) (left_old left_new held_old held_new : Option (List ℕ))
    : Type 0 where
  pub file : File
  pub same : file_format file ≡ format
  pub whole : HasWholeFrames file
  pub read : IsReadBehind file [] left_old left_new
  pub text : Appends held_old held_new (file_text file)
  pub counted : carried ≡ carried_of file

-- It was read up to a record that shows this fault, and the text of the file was written up to that record's line.
pub record IsExportedBehindUpToFault (format : FileFormat) (fault : FaultLine)
    (left_old left_new held_old held_new : Option (List ℕ)) : Type 0 where
  pub file : File
  pub same : file_format file ≡ format
  pub part : List ℕ
  pub read : IsReadBehind file part left_old left_new
  pub shown : ShowsFaultBehind file fault.fault part
  pub octet : fault.octet ≡ 8 + length (records_octets file)
  pub place : fault.place ≡ place_behind file
  pub text : Appends held_old held_new (open_text file)

-- A front of the text of what was read was written, not all of it.
pub record IsTextTornBehind (format : FileFormat) (left_old left_new held_old held_new : Option (List ℕ)) : Type 0 where
  pub file : File
  pub same : file_format file ≡ format
  pub read : IsReadBehind file [] left_old left_new
  pub text : Tears held_old held_new (file_text file)

-- Nothing was read, and nothing written.
pub record IsNotBegun {S K : Type 0} (source_old source_new : S) (sink_old sink_new : K) : Type 0 where
  pub read : source_new ≡ source_old
  pub text : sink_new ≡ sink_old
