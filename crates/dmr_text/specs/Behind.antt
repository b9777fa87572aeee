-- What is read of a file behind its head, and written of its text behind the first line.
use Rattle.std.specs.Prelude.{◌≡◌, ℕ, ◌+◌, List, [], ◌++◌, Option, length}
use Rattle.std.specs.Io.KnownBytes.{Appends, Consumes}
use Rattle.dmr_recording.specs.declared.fault_line.FaultLine.{FaultLine}
use Rattle.dmr_record.specs.Devices.{Tears}
use Rattle.dmr_text.specs.Files.{AreRecords, File, ShowsFaultBehind, place_behind, records_lines, records_octets}

-- The records of this file were read behind its head, and these octets of the next one.
pub record IsReadBehind (file : File) (part : List ℕ) (left_old left_new : Option (List ℕ)) : Type 0 where
  pub records : AreRecords file
  pub octets : Consumes left_old left_new (records_octets file ++ part)

-- They were read, and their lines written.
pub record AreLinesWritten (file : File) (left_old left_new held_old held_new : Option (List ℕ)) : Type 0 where
  pub read : IsReadBehind file [] left_old left_new
  pub text : Appends held_old held_new (records_lines file)

-- They were read up to a record that shows this fault, and their lines were written.
pub record AreLinesWrittenUpToFault (file : File) (fault : FaultLine) (left_old left_new held_old held_new : Option (List ℕ))
    : Type 0 where
  pub part : List ℕ
  pub read : IsReadBehind file part left_old left_new
  pub shown : ShowsFaultBehind file fault.fault part
  pub octet : fault.octet ≡ 8 + length (records_octets file)
  pub place : fault.place ≡ place_behind file
  pub text : Appends held_old held_new (records_lines file)

-- They were read, and a front of their lines was written, not all of them.
pub record AreLinesTorn (file : File) (left_old left_new held_old held_new : Option (List ℕ)) : Type 0 where
  pub read : IsReadBehind file [] left_old left_new
  pub text : Tears held_old held_new (records_lines file)
