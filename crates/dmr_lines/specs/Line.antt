-- The octets of lines.
use Rattle.std.specs.Prelude.{ℕ, ◌≢◌, ◌==◌, List, ◌++◌, Option, codes}
use Rattle.std.specs.Io.KnownBytes.{Appends}
use Rattle.std.specs.List.{All, before_first}

-- a text with no line feed in it
abbrev pub IsOneLine : List ℕ → Type 0
IsOneLine text = All (λ octet. octet ≢ 10) text

-- what stands before the first line feed of a text, or all of it where it has none
abbrev pub first_line : List ℕ → List ℕ
first_line = before_first (λ octet. octet == 10)

-- a text and a line feed
abbrev pub line_octets : List ℕ → List ℕ
line_octets text = text ++ codes "\n"

-- a line that begins with `error: `
abbrev pub error_octets : List ℕ → List ℕ
error_octets message = codes "error: " ++ line_octets message

-- One line was put, of some text.
pub record PutsLine (old new : Option (List ℕ)) : Type 0 where
  pub text : List ℕ
  pub one : IsOneLine text
  pub octets : Appends old new (line_octets text)

-- One line was put that begins with `error: `.
pub record PutsError (old new : Option (List ℕ)) : Type 0 where
  pub message : List ℕ
  pub one : IsOneLine message
  pub octets : Appends old new (error_octets message)
