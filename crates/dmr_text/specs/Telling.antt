-- What was told of a text, and what was made of it.
use Rattle.std.specs.Prelude.{◌≡◌, ℕ, ◌+◌, ◌<◌, ◌⊎◌, List, [], ◌∷◌, ◌++◌, Option, None, Some, length}
use Rattle.std.specs.Io.KnownBytes.{Appends}
use Rattle.dmr_words.specs.Lines.{IsBehindLines, IsUnended, Line, TellsLines, TextState, last_number, line_length, line_limit}
use Rattle.dmr_words.specs.Lines.{worded_behind}
use Rattle.dmr_words.specs.Words.{line_words}
use Rattle.dmr_record.specs.Devices.{Tears}
use Rattle.dmr_record.specs.Outgoing.{last_frame}
use Rattle.dmr_record.specs.Received.{last_fields}
use Rattle.dmr_recording.specs.Recordings.{RecordedSlot}
use Rattle.dmr_recording.specs.declared.recording.RecordedBurst.{RecordedBurst}
use Rattle.dmr_text.specs.Files.{AreRecords, File, HasWholeFrames, Receipts, Sendings, Slots, carried_of, records_octets}
use Rattle.dmr_text.specs.Says.{IsWithinLimit, SaysRecords, last_words, words_of_lines}
use Rattle.dmr_text.specs.TextFaults.{ShowsReceiptLineFault, ShowsSendingLineFault, ShowsSlotLineFault}
use Rattle.dmr_text.specs.declared.fault.LineFault.{LineFault}
use Rattle.dmr_text.specs.declared.fault.TextFault.{TextFault}
use Rattle.dmr_text.specs.declared.fault.TextFault.TheVariants.{LineBehindLast, Read, TooLong}

-- What stands behind the lines that were told can't be a line: there are too many octets, or lines, or the device failed in it.
abbrev pub ShowsCut : TextFault → TextState → Type 0
ShowsCut fault state = ((fault ≡ TooLong) × ((line_limit < line_length state.pending) ⊎ (state.number ≡ last_number)))
    ⊎ ((fault ≡ Read) × IsUnended state.pending)

-- The same, or nothing stands there.
abbrev pub ShowsBreak : TextFault → TextFault → TextState → Type 0
ShowsBreak at_end fault state = ((fault ≡ at_end) × IsBehindLines state) ⊎ ShowsCut fault state

-- Such a fault is told in the line behind the last that was told.
pub record BreaksOff (at_end : TextFault) (fault : LineFault) (state : TextState) : Type 0 where
  pub line : fault.line ≡ state.number + 1
  pub shown : ShowsBreak at_end fault.fault state

-- From one state to another no line was told, and what stands there breaks off.
pub record EndsBehind (at_end : TextFault) (fault : LineFault) (old : TextState) (left left' : Option (List ℕ)) : Type 0 where
  pub state : TextState
  pub told : TellsLines worded_behind old state left left' []
  pub breaks : BreaksOff at_end fault state

-- From one state to another no line was told, and the text is at its end.
pub record IsEndTold (old new : TextState) (left left' : Option (List ℕ)) : Type 0 where
  pub told : TellsLines worded_behind old new left left' []
  pub done : IsBehindLines new

-- A line was told where there must be none.
pub record IsLineBehindLast (fault : LineFault) (old : TextState) (left left' : Option (List ℕ)) : Type 0 where
  pub behind : Line
  pub new : TextState
  pub told : TellsLines worded_behind old new left left' (behind ∷ [])
  pub number : fault.line ≡ behind.number
  pub shown : fault.fault ≡ LineBehindLast

-- No line was told there, and it isn't the end.
pub record IsCutBehindLast (fault : LineFault) (old : TextState) (left left' : Option (List ℕ)) : Type 0 where
  pub new : TextState
  pub told : TellsLines worded_behind old new left left' []
  pub number : fault.line ≡ new.number + 1
  pub shown : ShowsCut fault.fault new

-- The text doesn't end where it should.
abbrev pub GoesOn : LineFault → TextState → (left left' : Option (List ℕ)) → Type 0
GoesOn fault old left left' = IsLineBehindLast fault old left left' ⊎ IsCutBehindLast fault old left left'

-- These words show this fault behind the records of a file that were said.
abbrev pub ShowsLineFault : File → TextFault → List (List ℕ) → Type 0
ShowsLineFault (Slots of slots) fault words = ShowsSlotLineFault of (length slots) fault words
ShowsLineFault (Sendings sendings) fault words = ShowsSendingLineFault (length sendings) (last_frame 0 sendings) fault words
ShowsLineFault (Receipts receipts) fault words = ShowsReceiptLineFault (length receipts) (last_fields None receipts) fault words

-- No silent slot stands behind the last burst of a recording.
abbrev pub EndsWithBurst : List RecordedSlot → Type 0
EndsWithBurst slots = (slots ≡ []) ⊎ ((front : List RecordedSlot) × (burst : RecordedBurst) × (slots ≡ front ++ Some burst ∷ []))

-- Nothing stands in a file behind what lines named.
abbrev pub EndsNamed : File → Type 0
EndsNamed (Slots of slots) = EndsWithBurst slots
EndsNamed file = Unit {0}

-- These lines say the records of this file, and nothing else stands in it.
pub record Names (lines : List Line) (file : File) : Type 0 where
  pub says : SaysRecords (words_of_lines lines) file
  pub records : AreRecords file
  pub within : IsWithinLimit file
  pub named : EndsNamed file

-- These lines say the records of this file, and the last of them how much it holds.
pub record SaysWhole (said : List Line) (file : File) : Type 0 where
  pub before : List Line
  pub last : Line
  pub parts : said ≡ before ++ last ∷ []
  pub says : SaysRecords (words_of_lines before) file
  pub count : line_words last.octets ≡ last_words (carried_of file)
  pub records : AreRecords file
  pub within : IsWithinLimit file
  pub whole : HasWholeFrames file

-- Lines were told that say the records of this file, and these were written.
pub record IsTaken (file : File) (old new : TextState) (left left' held held' : Option (List ℕ)) : Type 0 where
  pub said : List Line
  pub told : TellsLines worded_behind old new left left' said
  pub names : Names said file
  pub written : Appends held held' (records_octets file)

-- Lines were told that say this file to its end, and its records were written.
pub record IsTakenWhole (file : File) (old new : TextState) (left left' held held' : Option (List ℕ)) : Type 0 where
  pub said : List Line
  pub told : TellsLines worded_behind old new left left' said
  pub says : SaysWhole said file
  pub written : Appends held held' (records_octets file)

-- Such lines were told and their records written, and the line behind them shows this fault.
pub record IsStoppedInLine (file : File) (fault : LineFault) (old : TextState) (left left' held held' : Option (List ℕ))
    : Type 0 where
  pub said : List Line
  pub line : Line
  pub new : TextState
  pub told : TellsLines worded_behind old new left left' (said ++ line ∷ [])
  pub names : Names said file
  pub number : fault.line ≡ line.number
  pub shown : ShowsLineFault file fault.fault (line_words line.octets)
  pub written : Appends held held' (records_octets file)

-- Such lines were told and their records written, and behind them the text breaks off.
pub record StopsBehind (at_end : TextFault) (file : File) (fault : LineFault) (old : TextState)
    (left left' held held' : Option (List ℕ))
    : Type 0 where
  pub new : TextState
  pub taken : IsTaken file old new left left' held held'
  pub breaks : BreaksOff at_end fault new

-- Going through the records of a text stopped at a fault, in a line or where the text breaks off.
abbrev pub IsStopped : TextFault → File → LineFault → TextState → (left left' held held' : Option (List ℕ)) → Type 0
IsStopped at_end file fault old left left' held held' =
    IsStoppedInLine file fault old left left' held held' ⊎ StopsBehind at_end file fault old left left' held held'

-- Lines were told that say the records of this file, or all of it, and a front of its records was written, not all of them.
pub record IsTornIn (file : File) (old new : TextState) (left left' held held' : Option (List ℕ)) : Type 0 where
  pub said : List Line
  pub told : TellsLines worded_behind old new left left' said
  pub says : Names said file ⊎ SaysWhole said file
  pub torn : Tears held held' (records_octets file)
