-- Lines of a text, and what a reader of lines remembers of it.
use Rattle.std.specs.Prelude.{◌≡◌, ℕ, ◌+◌, ◌-◌, ◌^◌, ◌<◌, ◌≤◌, ◌==◌, Bool, true, false, nat_le, List, [], ◌∷◌, ◌++◌, length, Option}
use Rattle.std.specs.List.{filter, list_all, position_or_len, slice_split}
use Rattle.std.specs.Io.KnownBytes.{Consumes}
use Rattle.std.specs.Str.Lines.{lines}
use Rattle.dmr_words.specs.Words.{is_worded}

-- how many octets a line has at most, in front of its line feed
abbrev pub line_limit : ℕ
line_limit = 131200

abbrev pub is_line_feed : ℕ → Bool
is_line_feed octet = octet == 10

-- how many octets stand in front of the first line feed of a text, or in all of it where it has none
abbrev pub line_length : List ℕ → ℕ
line_length text = position_or_len is_line_feed text

-- there is a line feed in a text
abbrev pub HasLineFeed : List ℕ → Type 0
HasLineFeed text = line_length text < length text

-- a line of a text: its number, from 1, and its octets, without what ends it
pub record Line : Type 0 where
  pub number : ℕ
  pub octets : List ℕ

abbrev pub numbered_line : ℕ → List ℕ → Line
numbered_line number octets = record { number = number; octets = octets }

-- the greatest number of a line
abbrev pub last_number : ℕ
last_number = 2 ^ 64 - 2

-- lines with their numbers, where they stand behind the line of this number
abbrev pub numbered_lines : ℕ → List (List ℕ) → List Line
numbered_lines number [] = []
numbered_lines number (octets ∷ more) = numbered_line (number + 1) octets ∷ numbered_lines (number + 1) more

-- the lines of what stands in a text behind the line of this number. They end at line feeds, and so does the text, or with a last
-- line without one. A carriage return in front of a line feed is no part of a line.
abbrev pub lines_behind : ℕ → List ℕ → List Line
lines_behind number text = numbered_lines number (lines text)

-- those of them that count
abbrev pub worded_behind : ℕ → List ℕ → List Line
worded_behind number text = filter (λ line. is_worded line.octets) (lines_behind number text)

-- whether no line of a text is longer than a line may be
abbrev pub has_short_lines : List ℕ → Bool
has_short_lines text = list_all (λ part. nat_le (length part) line_limit) (slice_split is_line_feed text)

-- what a reader of lines remembers of its text
pub record TextState : Type 0 where
  -- the octets that it has read, and that belong to no line that was told
  pub pending : List ℕ
  -- the line that was told last
  pub line : List ℕ
  -- the number of that line, or 0 in front of the first
  pub number : ℕ
  -- whether the text is at its end behind the octets that were read
  pub is_over : Bool

-- in front of a text
abbrev pub fresh_text : TextState
fresh_text = record { pending = []; line = []; number = 0; is_over = false }

-- behind all lines of a text
pub record IsBehindLines (state : TextState) : Type 0 where
  pub over : state.is_over ≡ true
  pub none : state.pending ≡ []

-- the same, with the octets of its line as if they belonged to none
abbrev pub untold : TextState → TextState
untold state = record { pending = state.line ++ state.pending; line = []; number = state.number; is_over = state.is_over }

-- octets that may follow in the text: none, where it is over
abbrev pub MayFollow : TextState → List ℕ → Type 0
MayFollow state more = state.is_over ≡ true → more ≡ []

-- From one state to another these lines were told, of those that `seen` sees in a text, and no others.
pub record TellsLines (seen : ℕ → List ℕ
    → List Line) (old new : TextState) (left left' : Option (List ℕ)) (told : List Line) : Type 0 where
  -- what was read meanwhile
  pub taken : List ℕ
  pub consumed : Consumes left left' taken
  -- whatever follows, these lines come first, and the others are those of what is left
  pub lines : (more : List ℕ) → MayFollow new more
      → seen old.number (old.pending ++ taken ++ more) ≡ told ++ seen new.number (new.pending ++ more)
  -- whatever follows, no line was passed that is too long
  pub short : (more : List ℕ) → MayFollow new more
      → has_short_lines (old.pending ++ taken ++ more) ≡ has_short_lines (new.pending ++ more)
  -- behind the end of a text nothing is read
  pub quiet : old.is_over ≡ true → taken ≡ []
  pub stays : old.is_over ≡ true → new.is_over ≡ true

-- the line that a state has, where one was found
abbrev pub told_now : Bool → TextState → List Line
told_now true state = numbered_line state.number state.line ∷ []
told_now false state = []

-- What was there, and what was read meanwhile behind it, are these octets.
pub record Gathers (left left' : Option (List ℕ)) (before after : List ℕ) : Type 0 where
  pub taken : List ℕ
  pub consumed : Consumes left left' taken
  pub octets : before ++ taken ≡ after

-- a line without its line feed, that isn't too long yet
pub record IsUnended (octets : List ℕ) : Type 0 where
  pub one : line_length octets ≡ length octets
  pub short : length octets ≤ line_limit
