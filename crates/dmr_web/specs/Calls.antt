-- What each call of a page gives.
use Rattle.std.specs.Prelude.{◌≡◌, ℕ, Bool, List, [], Option, Some, Result, Ok, Err, if◌then◌else◌}
use Rattle.std.specs.Io.KnownBytes.{IsAtEnd}
use Rattle.dmr_listing.specs.declared.frames.Frames.{Frames}
use Rattle.dmr_record.specs.declared.head.FileFormat.{FileFormat}
use Rattle.dmr_recording.specs.declared.fault_line.FaultLine.{FaultLine}
use Rattle.dmr_recording.specs.declared.recording.Recording.{Recording}
use Rattle.dmr_recording.specs.declared.stop.Stop.{Stop}
use Rattle.dmr_recording.specs.declared.stop.Stop.TheVariants.{File, Output}
use Rattle.dmr_show.specs.Printed.{PutsLines}
use Rattle.dmr_show.specs.Showing.{IsHeadFault, format_of}
use Rattle.dmr_web.specs.Numbers.{all_listed, fault_met, format_number, numbered_format, text_full, told_fault, told_text}
use Rattle.dmr_web.specs.Pictures.{IsPicturedToEnd, IsPicturedToFault}
use Rattle.dmr_web.specs.Windows.{IsHeadRead, IsListedInPart, IsListedToEnd, IsListedToFault, front_held}
use Rattle.dmr_web.specs.declared.numbers.Told.{Told}
use Rattle.dmr_web.specs.declared.window.WrittenAs.{WrittenAs}
use Rattle.dmr_web.specs.declared.window.WrittenAs.TheVariants.{Json, Text}

-- the status of a call that stopped before the end
abbrev pub status_at : Stop → ℕ
status_at (File fault) = fault_met
status_at Output = text_full

-- what is told then, of a text of so many octets and behind so many bursts or records
abbrev pub told_at : Stop → ℕ → ℕ → Told
told_at (File fault) length next = told_fault fault (told_text length next)
told_at Output length next = told_text length next

-- the status of a call, by how it ended
abbrev pub status_by_end : {T : Type 0} → Result T Stop → ℕ
status_by_end (Ok x) = all_listed
status_by_end (Err stop) = status_at stop

-- what is told then
abbrev pub told_by_end : {T : Type 0} → Result T Stop → ℕ → ℕ → Told
told_by_end (Ok x) length next = told_text length next
told_by_end (Err stop) length next = told_at stop length next

-- What is told is this fault, of the text and behind the bursts or records that it tells.
abbrev pub TellsInNumbers : FaultLine → Told → Type 0
TellsInNumbers fault told = told ≡ told_fault fault (told_text told.length told.next)

-- what lines are written in
abbrev pub notation_asked : Bool → WrittenAs
notation_asked is_json = if is_json then Json else Text

-- The file begins with the head of one of the four formats, which is told, and the text has one line.
pub record IsHeadListed (file text : List ℕ) (told : Told) : Type 0 where
  pub format : FileFormat
  pub behind : Option (List ℕ)
  pub head : IsHeadRead format (Some file) behind
  pub which : told.format ≡ format_number format
  pub line : PutsLines 1 (Some []) (front_held text told.length)

-- Its head shows this fault, which is told, and the text has one line.
pub record IsHeadFaultListed (file text : List ℕ) (told : Told) : Type 0 where
  pub fault : FaultLine
  pub left : Option (List ℕ)
  pub head : IsHeadFault fault (Some file) left
  pub which : TellsInNumbers fault told
  pub line : PutsLines 1 (Some []) (front_held text told.length)

-- The octets are all records of a file of the format of this number. The text has a line for each from one of them on, and a last
-- one. How many there are is told.
pub record IsAllListed (number : ℕ) (is_json : Bool) (frame from : ℕ) (octets text : List ℕ) (told : Told) : Type 0 where
  pub format : FileFormat
  pub asked : numbered_format number ≡ Some format
  pub left : Option (List ℕ)
  pub listed : IsListedToEnd format (notation_asked is_json) frame from told.next 1
      (Some octets) left (Some []) (front_held text told.length)
  pub end : IsAtEnd left

-- The same up to a record that shows this fault, which is told.
pub record IsFaultListed (number : ℕ) (is_json : Bool) (frame from : ℕ) (octets text : List ℕ) (told : Told) : Type 0 where
  pub format : FileFormat
  pub asked : numbered_format number ≡ Some format
  pub left : Option (List ℕ)
  pub fault : FaultLine
  pub listed : IsListedToFault format (notation_asked is_json) frame from told.next 1 fault
      (Some octets) left (Some []) (front_held text told.length)
  pub which : TellsInNumbers fault told

-- The same up to a line for which the text had no room. How many bursts or records came before is told.
pub record IsPartListed (number : ℕ) (is_json : Bool) (frame from : ℕ) (octets text : List ℕ) (told : Told) : Type 0 where
  pub format : FileFormat
  pub asked : numbered_format number ≡ Some format
  pub left : Option (List ℕ)
  pub listed : IsListedInPart format (notation_asked is_json) frame from told.next
      (Some octets) left (Some []) (front_held text told.length)

-- The octets are all records of a recording of the format of this number. The text has the strips of these frames, and a last line.
pub record IsAllPictured (number : ℕ) (frames : Frames) (octets text : List ℕ) (told : Told) : Type 0 where
  pub recording : Recording
  pub asked : numbered_format number ≡ Some (format_of recording)
  pub left : Option (List ℕ)
  pub pictured : IsPicturedToEnd recording frames 1 (Some octets) left (Some []) (front_held text told.length)
  pub end : IsAtEnd left

-- The same up to a slot that shows this fault, which is told.
pub record IsFaultPictured (number : ℕ) (frames : Frames) (octets text : List ℕ) (told : Told) : Type 0 where
  pub recording : Recording
  pub asked : numbered_format number ≡ Some (format_of recording)
  pub left : Option (List ℕ)
  pub fault : FaultLine
  pub pictured : IsPicturedToFault recording frames 1 fault (Some octets) left (Some []) (front_held text told.length)
  pub which : TellsInNumbers fault told
