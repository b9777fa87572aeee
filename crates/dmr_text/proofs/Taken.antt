-- What was told of a text goes on, line by line.
use Rattle.std.proofs.Common.{◌≡◌, inl, inr, ℕ, List, [], ◌∷◌, ◌++◌, Option, sym, subst, append-nil}
use Rattle.std.specs.Io.KnownBytes.{Appends}
use Rattle.std.proofs.KnownBytes.{Appends-trans}
use Rattle.dmr_record.specs.Devices.{Tears}
use Rattle.dmr_record.proofs.Torn.{Tears_after}
use Rattle.dmr_words.specs.Lines.{Line, TellsLines, TextState, worded_behind}
use Rattle.dmr_words.specs.Words.{line_words}
use Rattle.dmr_words.proofs.Telling.{tells_both}
use Rattle.dmr_text.specs.Files.{File, records_octets}
use Rattle.dmr_text.specs.Telling.{EndsBehind, IsEndTold, StopsBehind, IsStoppedInLine, IsTaken, IsTakenWhole, IsTornIn, Names}
use Rattle.dmr_text.specs.Telling.{SaysWhole}
use Rattle.dmr_text.specs.Telling.{ShowsLineFault}
use Rattle.dmr_text.specs.declared.fault.LineFault.{LineFault}
use Rattle.dmr_text.specs.declared.fault.TextFault.{TextFault}

-- behind them the text breaks off
pub broken_behind : (at_end : TextFault) (file : File) (fault : LineFault) (old mid : TextState) (a b c h i : Option (List ℕ))
    → IsTaken file old mid a b h i → EndsBehind at_end fault mid b c → StopsBehind at_end file fault old a c h i
broken_behind at_end file fault old mid a b c h i taken ends = record {
  new = ends.state;
  taken = record {
    said = taken.said;
    told = subst (TellsLines worded_behind old ends.state a c) (append-nil taken.said)
        (tells_both worded_behind old mid ends.state a b c taken.said [] taken.told ends.told);
    names = taken.names;
    written = taken.written;
  };
  breaks = ends.breaks;
}

-- behind the last of them the text is at its end
pub whole_to_end : (file : File) (old mid new : TextState) (a b c h i : Option (List ℕ)) → IsTakenWhole file old mid a b h i
    → IsEndTold mid new b c → IsTakenWhole file old new a c h i
whole_to_end file old mid new a b c h i taken end = record {
  said = taken.said;
  told = subst (TellsLines worded_behind old new a c) (append-nil taken.said)
      (tells_both worded_behind old mid new a b c taken.said [] taken.told end.told);
  says = taken.says;
  written = taken.written;
}

module _ (file : File) (old mid new : TextState) (a b c h i : Option (List ℕ)) (line : Line)
    (taken : IsTaken file old mid a b h i) (told : TellsLines worded_behind mid new b c (line ∷ [])) where
  all_told : TellsLines worded_behind old new a c (taken.said ++ line ∷ [])
  all_told = tells_both worded_behind old mid new a b c taken.said (line ∷ []) taken.told told

  -- the next line shows a fault
  pub stopped_in_line : (fault : LineFault) → fault.line ≡ line.number → ShowsLineFault file fault.fault (line_words line.octets)
      → IsStoppedInLine file fault old a c h i
  stopped_in_line fault number shown = record {
    said = taken.said;
    line = line;
    new = new;
    told = all_told;
    names = taken.names;
    number = number;
    shown = shown;
    written = taken.written;
  }

  module _ (file' : File) (more : List ℕ) (j : Option (List ℕ)) (octets : records_octets file' ≡ records_octets file ++ more) where
    -- it says more records, which were written
    pub taken_more : ((said : List Line) → Names said file → Names (said ++ line ∷ []) file') → Appends i j more
        → IsTaken file' old new a c h j
    taken_more names written = record {
      said = taken.said ++ line ∷ [];
      told = all_told;
      names = names taken.said taken.names;
      written = subst (Appends h j) (sym octets) (Appends-trans h i j (records_octets file) more taken.written written);
    }

    -- or were torn
    pub torn_more : ((said : List Line) → Names said file → Names (said ++ line ∷ []) file') → Tears i j more
        → IsTornIn file' old new a c h j
    torn_more names torn = record {
      said = taken.said ++ line ∷ [];
      told = all_told;
      says = inl (names taken.said taken.names);
      torn = subst (Tears h j) (sym octets) (Tears_after h i j (records_octets file) more taken.written torn);
    }

    -- it is the last, and what stands behind the records was written
    pub taken_whole : ((said : List Line) → Names said file → SaysWhole (said ++ line ∷ []) file') → Appends i j more
        → IsTakenWhole file' old new a c h j
    taken_whole says written = record {
      said = taken.said ++ line ∷ [];
      told = all_told;
      says = says taken.said taken.names;
      written = subst (Appends h j) (sym octets) (Appends-trans h i j (records_octets file) more taken.written written);
    }

    -- or was torn
    pub torn_whole : ((said : List Line) → Names said file → SaysWhole (said ++ line ∷ []) file') → Tears i j more
        → IsTornIn file' old new a c h j
    torn_whole says torn = record {
      said = taken.said ++ line ∷ [];
      told = all_told;
      says = inr (says taken.said taken.names);
      torn = subst (Tears h j) (sym octets) (Tears_after h i j (records_octets file) more taken.written torn);
    }
