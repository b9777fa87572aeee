-- What was read of a script goes on, line by line.
use Rattle.std.proofs.Common.{◌≡◌, ℕ, ◌<◌, inl, inr, Bool, true, false, List, [], ◌∷◌, ◌++◌, Option, None}
use Rattle.std.proofs.Common.{subst, append-nil, refl, sym}
use Rattle.dmr_words.specs.Faults.{is_source_fault}
use Rattle.dmr_words.specs.Lines.{IsUnended, Line, TellsLines, TextState, fresh_text, last_number, line_length, line_limit}
use Rattle.dmr_words.specs.Lines.{lines_behind}
use Rattle.dmr_words.specs.declared.fault.LineFault.{LineFault}
use Rattle.dmr_words.specs.declared.fault.LineFault.TheVariants as line
use Rattle.dmr_words.proofs.Telling.{tells_both, tells_none}
use Rattle.dmr_script.specs.Order.{MayStandBehind, refused_behind, said_with, said_with_all}
use Rattle.dmr_script.specs.Quiet.{is_quiet}
use Rattle.dmr_script.specs.Reading.{AreSaid, AreLinesSaid, ShowsScriptCut}
use Rattle.dmr_script.specs.Reading.AreSaid.{NoLine, Quiet, Says}
use Rattle.dmr_script.specs.declared.fault.Refusal.{Refusal}
use Rattle.dmr_script.specs.declared.fault.Refusal.TheVariants.{LongLine, Read, TooManyLines}
use Rattle.dmr_script.specs.declared.order.Said.{Said}
use Rattle.dmr_script.specs.declared.statement.NumberedStatement.{NumberedStatement}

-- a line more that says nothing
pub quiet_more : (lines : List Line) (ss : List NumberedStatement) (line : Line) → AreSaid lines ss → is_quiet line.octets ≡ true
    → AreSaid (lines ++ line ∷ []) ss
quiet_more _ _ line NoLine q = Quiet line [] [] q NoLine
quiet_more _ _ line (Quiet l lines ss h said) q = Quiet l _ ss h (quiet_more lines ss line said q)
quiet_more _ _ line (Says l lines s ss h n said) q = Says l _ s ss h n (quiet_more lines ss line said q)

-- a line more, and its statement
pub says_more : (lines : List Line) (ss : List NumberedStatement) (line : Line) (s : NumberedStatement) → AreSaid lines ss
    → is_quiet line.octets ≡ false → s.line ≡ line.number → AreSaid (lines ++ line ∷ []) (ss ++ s ∷ [])
says_more _ _ line s NoLine w n = Says line [] s [] w n NoLine
says_more _ _ line s (Quiet l lines ss h said) w n = Quiet l _ _ h (says_more lines ss line s said w n)
says_more _ _ line s (Says l lines t ss h k said) w n = Says l _ t _ h k (says_more lines ss line s said w n)

-- a statement more that may stand there
pub follows_more : (said : Said) (ss : List NumberedStatement) (s : NumberedStatement) → MayStandBehind said ss
    → refused_behind (said_with_all said ss) s.statement ≡ None → MayStandBehind said (ss ++ s ∷ [])
follows_more said [] s may h = (h, tt)
follows_more said (t ∷ ss) s may h = (may.0, follows_more (said_with said t.statement) ss s may.1 h)

-- what was said with a statement more
pub said_more : (said : Said) (ss : List NumberedStatement) (s : NumberedStatement)
    → said_with_all said (ss ++ s ∷ []) ≡ said_with (said_with_all said ss) s.statement
said_more said [] s = refl
said_more said (t ∷ ss) s = said_more (said_with said t.statement) ss s

-- nothing was read
nothing_read : (state : TextState) (x : Option (List ℕ)) → AreLinesSaid state state x x []
nothing_read state x = record { told = []; tells = tells_none lines_behind state x; said = NoLine }

-- in front of a text, with no statement
pub begun : (state : TextState) (ss : List NumberedStatement) (x : Option (List ℕ)) → state ≡ fresh_text → ss ≡ []
    → AreLinesSaid fresh_text state x x ss
begun state ss x e n =
    subst (λ (t : TextState). AreLinesSaid fresh_text t x x ss) (sym e)
    (subst (λ (l : List NumberedStatement). AreLinesSaid fresh_text fresh_text x x l) (sym n) (nothing_read fresh_text x))

-- a fault of a line that can't be told is told as the refusal that it shows
pub cut_shown : (fault : LineFault) (refusal : Refusal) (failed : Bool) (state : TextState)
    → (fault ≡ line.TooLong → refusal ≡ LongLine) → (fault ≡ line.TooMany → refusal ≡ TooManyLines)
    → (fault ≡ line.Read → refusal ≡ Read) → failed ≡ is_source_fault fault
    → (fault ≡ line.TooLong → line_limit < line_length state.pending) → (fault ≡ line.TooMany → state.number ≡ last_number)
    → (fault ≡ line.Read → IsUnended state.pending) → ShowsScriptCut refusal failed state
cut_shown line.TooLong refusal failed state l m r f long many cut = inl (l refl, f, long refl)
cut_shown line.TooMany refusal failed state l m r f long many cut = inr (inl (m refl, f, many refl))
cut_shown line.Read refusal failed state l m r f long many cut = inr (inr (r refl, f, cut refl))

module _ (a b c : TextState) (x y z : Option (List ℕ)) (ss : List NumberedStatement) (said : AreLinesSaid a b x y ss) where
  -- no line more was told
  pub read_no_line : TellsLines lines_behind b c y z [] → AreLinesSaid a c x z ss
  read_no_line tells = record {
    told = said.told;
    tells = subst (TellsLines lines_behind a c x z) (append-nil said.told)
        (tells_both lines_behind a b c x y z said.told [] said.tells tells);
    said = said.said;
  }

  -- a line more was told, which says nothing
  pub read_quiet : (line : Line) → TellsLines lines_behind b c y z (line ∷ []) → is_quiet line.octets ≡ true
      → AreLinesSaid a c x z ss
  read_quiet line tells q = record {
    told = said.told ++ line ∷ [];
    tells = tells_both lines_behind a b c x y z said.told (line ∷ []) said.tells tells;
    said = quiet_more said.told ss line said.said q;
  }

  -- a line more was told, which says a statement
  pub read_words : (line : Line) (s : NumberedStatement) → TellsLines lines_behind b c y z (line ∷ [])
      → is_quiet line.octets ≡ false → s.line ≡ line.number → AreLinesSaid a c x z (ss ++ s ∷ [])
  read_words line s tells w n = record {
    told = said.told ++ line ∷ [];
    tells = tells_both lines_behind a b c x y z said.told (line ∷ []) said.tells tells;
    said = says_more said.told ss line s said.said w n;
  }
