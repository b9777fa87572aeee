-- What was read of a script.
use Rattle.std.specs.Prelude.{◌≡◌, ℕ, ◌+◌, ◌<◌, ◌⊎◌, Bool, true, false, List, [], ◌∷◌, Option, Some, None, length}
use Rattle.dmr_words.specs.Lines.{IsBehindLines, IsUnended, Line, TellsLines, TextState, fresh_text, last_number, line_length}
use Rattle.dmr_words.specs.Lines.{line_limit, lines_behind}
use Rattle.dmr_script.specs.Quiet.{is_quiet}
use Rattle.dmr_script.specs.declared.fault.Refusal.{Refusal}
use Rattle.dmr_script.specs.declared.fault.Refusal.TheVariants.{LongLine, Read, TooManyLines}
use Rattle.dmr_script.specs.declared.fault.RefusedLine.{RefusedLine}
use Rattle.dmr_script.specs.declared.statement.NumberedStatement.{NumberedStatement}

-- These lines say these statements: each has the number of its line, and a line that has none says nothing.
pub data AreSaid : List Line → List NumberedStatement → Type 0 where
  NoLine : AreSaid [] []
  Quiet : (line : Line) (lines : List Line) (ss : List NumberedStatement) → is_quiet line.octets ≡ true → AreSaid lines ss
      → AreSaid (line ∷ lines) ss
  Says : (line : Line) (lines : List Line) (s : NumberedStatement) (ss : List NumberedStatement) → is_quiet line.octets ≡ false
      → s.line ≡ line.number → AreSaid lines ss → AreSaid (line ∷ lines) (s ∷ ss)

-- Between two states of what is left of a text, its lines say these statements, and no line more was told.
pub record AreLinesSaid (old new : TextState) (left left' : Option (List ℕ)) (ss : List NumberedStatement) : Type 0 where
  pub told : List Line
  pub tells : TellsLines lines_behind old new left left' told
  pub said : AreSaid told ss

-- The whole text was read, and the device hasn't failed.
pub record IsWholeScript (failed : Bool) (left left' : Option (List ℕ)) (ss : List NumberedStatement) : Type 0 where
  pub end : TextState
  pub said : AreLinesSaid fresh_text end left left' ss
  pub done : IsBehindLines end
  pub well : failed ≡ false

-- It was read as far as a line, which is refused, and no line behind that was told. The line says something, or is too long. The
-- device hasn't failed.
pub record IsRefusedScript (refused : RefusedLine) (failed : Bool) (left left' : Option (List ℕ))
    (ss : List NumberedStatement) : Type 0 where
  pub front : TextState
  pub between : Option (List ℕ)
  pub said : AreLinesSaid fresh_text front left between ss
  pub line : Line
  pub end : TextState
  pub tells : TellsLines lines_behind front end between left' (line ∷ [])
  pub words : (is_quiet line.octets ≡ false) ⊎ (65536 < length line.octets)
  pub number : refused.line ≡ line.number
  pub well : failed ≡ false

-- What stands behind the lines that were told can't be a line: there are too many octets, or lines, or the device failed in it.
abbrev pub ShowsScriptCut : Refusal → Bool → TextState → Type 0
ShowsScriptCut refusal failed state = ((refusal ≡ LongLine) × (failed ≡ false) × (line_limit < line_length state.pending))
    ⊎ ((refusal ≡ TooManyLines) × (failed ≡ false) × (state.number ≡ last_number))
    ⊎ ((refusal ≡ Read) × (failed ≡ true) × IsUnended state.pending)

-- It was read as far as the line behind those that were told, which can't be told.
pub record IsCutOff (refused : RefusedLine) (failed : Bool) (left left' : Option (List ℕ))
    (ss : List NumberedStatement) : Type 0 where
  pub end : TextState
  pub said : AreLinesSaid fresh_text end left left' ss
  pub number : refused.line ≡ end.number + 1
  pub shown : ShowsScriptCut refused.refusal failed end

-- What was read of a script, where the device has failed by then or hasn't.
abbrev pub IsScriptRead : Option RefusedLine → List NumberedStatement → Bool → (left left' : Option (List ℕ)) → Type 0
IsScriptRead None ss failed left left' = IsWholeScript failed left left' ss
IsScriptRead (Some refused) ss failed left left' =
    IsRefusedScript refused failed left left' ss ⊎ IsCutOff refused failed left left' ss
