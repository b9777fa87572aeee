-- What is read of a text, and written of its file.
use Rattle.std.specs.Prelude.{◌≡◌, ◌≢◌, ◌⊎◌, ℕ, List, [], ◌∷◌, Option, true}
use Rattle.std.specs.Io.KnownBytes.{Appends, Consumes, IsAtEnd}
use Rattle.dmr_words.specs.Lines.{IsBehindLines, Line, TellsLines, TextState, fresh_text, has_short_lines, worded_behind}
use Rattle.dmr_words.specs.Words.{line_words}
use Rattle.dmr_record.specs.Devices.{Tears}
use Rattle.dmr_record.specs.Head.{head_octets, magic_of}
use Rattle.dmr_record.specs.declared.head.FileFormat.{FileFormat}
use Rattle.dmr_text.specs.Files.{File, carried_of, file_octets, file_format}
use Rattle.dmr_text.specs.Spelling.{title_words}
use Rattle.dmr_text.specs.Telling.{EndsBehind, GoesOn, IsStopped, IsTakenWhole, IsTornIn, SaysWhole}
use Rattle.dmr_text.specs.declared.carried.Carried.{Carried}
use Rattle.dmr_text.specs.declared.fault.LineFault.{LineFault}
use Rattle.dmr_text.specs.declared.fault.TextFault.TheVariants.{NoFirstLine, NoLastLine}

-- These lines say a file: the first its format, and the others its records and how much it holds.
pub record SaysFile (lines : List Line) (file : File) : Type 0 where
  pub first : Line
  pub others : List Line
  pub parts : lines ≡ first ∷ others
  pub format : line_words first.octets ≡ title_words (file_format file)
  pub whole : SaysWhole others file

-- A text was read to its end, its lines that count say a file, and that was written.
pub record IsImported (carried : Carried) (left left' held held' : Option (List ℕ)) : Type 0 where
  pub file : File
  pub text : List ℕ
  pub read : Consumes left left' text
  pub end : IsAtEnd left'
  pub short : has_short_lines text ≡ true
  pub says : SaysFile (worded_behind 0 text) file
  pub written : Appends held held' (file_octets file)
  pub counted : carried ≡ carried_of file

-- The first line of a text was told, and says this format.
pub record IsBegun (format : FileFormat) (new : TextState) (left left' : Option (List ℕ)) : Type 0 where
  pub first : Line
  pub told : TellsLines worded_behind fresh_text new left left' (first ∷ [])
  pub says : line_words first.octets ≡ title_words format

-- The first line was told, and says no format.
pub record IsNotFirst (fault : LineFault) (left left' : Option (List ℕ)) : Type 0 where
  pub first : Line
  pub new : TextState
  pub told : TellsLines worded_behind fresh_text new left left' (first ∷ [])
  pub says : (format : FileFormat) → line_words first.octets ≢ title_words format
  pub number : fault.line ≡ first.number
  pub shown : fault.fault ≡ NoFirstLine

-- The text is at fault in its first line, and nothing was written.
pub record IsFirstFault (fault : LineFault) (left left' held held' : Option (List ℕ)) : Type 0 where
  pub shown : IsNotFirst fault left left' ⊎ EndsBehind NoFirstLine fault fresh_text left left'
  pub written : held' ≡ held

-- Behind the first line a text of this format was read to its end, and the records of the file were written.
pub record IsImportedBehind (format : FileFormat) (carried : Carried) (old new : TextState)
    (left left' held held' : Option (List ℕ))
    : Type 0 where
  pub file : File
  pub same : file_format file ≡ format
  pub taken : IsTakenWhole file old new left left' held held'
  pub done : IsBehindLines new
  pub counted : carried ≡ carried_of file

-- It is at fault in or in front of its last line, and the records of the lines before were written.
pub record IsFaultInRecords (format : FileFormat) (fault : LineFault) (old : TextState)
    (left left' held held' : Option (List ℕ)) : Type 0
  where
    pub file : File
    pub same : file_format file ≡ format
    pub stopped : IsStopped NoLastLine file fault old left left' held held'

-- It is at fault behind its last line, and all records were written.
pub record IsEndFault (format : FileFormat) (fault : LineFault) (old : TextState) (left left' held held' : Option (List ℕ)) : Type 0
  where
    pub file : File
    pub same : file_format file ≡ format
    pub end : TextState
    pub left_mid : Option (List ℕ)
    pub taken : IsTakenWhole file old end left left_mid held held'
    pub more : GoesOn fault end left_mid left'

-- It is at fault behind its first line.
abbrev pub IsFaultBehind : FileFormat → LineFault → TextState → (left left' held held' : Option (List ℕ)) → Type 0
IsFaultBehind format fault old left left' held held' =
    IsFaultInRecords format fault old left left' held held' ⊎ IsEndFault format fault old left left' held held'

-- The first line says a format, the head of its file was written, and behind that line the text is at fault.
pub record IsLaterFault (fault : LineFault) (left left' held held' : Option (List ℕ)) : Type 0 where
  pub format : FileFormat
  pub mid : TextState
  pub left_mid : Option (List ℕ)
  pub held_mid : Option (List ℕ)
  pub begun : IsBegun format mid left left_mid
  pub head : Appends held held_mid (head_octets (magic_of format))
  pub behind : IsFaultBehind format fault mid left_mid left' held_mid held'

-- A text is at fault: in its first line, or behind it.
abbrev pub IsTextFault : LineFault → (left left' held held' : Option (List ℕ)) → Type 0
IsTextFault fault left left' held held' = IsFirstFault fault left left' held held' ⊎ IsLaterFault fault left left' held held'

-- The first line says a format, and a front of the head of its file was written, not all of it.
pub record IsHeadTorn (left left' held held' : Option (List ℕ)) : Type 0 where
  pub format : FileFormat
  pub new : TextState
  pub begun : IsBegun format new left left'
  pub torn : Tears held held' (head_octets (magic_of format))

-- Behind the first line of a text of this format a front of the records that lines say was written, not all of them.
pub record IsTornBehindFirst (format : FileFormat) (old new : TextState) (left left' held held' : Option (List ℕ)) : Type 0 where
  pub file : File
  pub same : file_format file ≡ format
  pub torn : IsTornIn file old new left left' held held'

-- The head was written, and so was a front of the records that lines say, not all of them.
pub record IsRecordTorn (left left' held held' : Option (List ℕ)) : Type 0 where
  pub format : FileFormat
  pub mid : TextState
  pub new : TextState
  pub left_mid : Option (List ℕ)
  pub held_mid : Option (List ℕ)
  pub begun : IsBegun format mid left left_mid
  pub head : Appends held held_mid (head_octets (magic_of format))
  pub behind : IsTornBehindFirst format mid new left_mid left' held_mid held'

-- The file wasn't written to its end: the sink took a front of what was said.
abbrev pub IsFileTorn : (left left' held held' : Option (List ℕ)) → Type 0
IsFileTorn left left' held held' = IsHeadTorn left left' held held' ⊎ IsRecordTorn left left' held held'
