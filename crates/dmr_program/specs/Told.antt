-- What is printed of how a run ended, where more is told than one line.
use Rattle.std.specs.Prelude.{◌≡◌, ℕ, ◌++◌, Bool, false, List, Option}
use Rattle.std.specs.Io.KnownBytes.{Appends}
use Rattle.dmr_lines.specs.Line.{IsOneLine, PutsError, PutsLine, error_octets, line_octets}

-- A line was put that begins with `error: `, and then one more, of this text.
pub record PutsErrorAnd (more : List ℕ) (old new : Option (List ℕ)) : Type 0 where
  pub first : List ℕ
  pub one : IsOneLine first
  pub octets : Appends old new (error_octets first ++ error_octets more)

-- A line was put, and then one that begins with `error: `, of this text.
pub record PutsLineAnd (more : List ℕ) (old new : Option (List ℕ)) : Type 0 where
  pub first : List ℕ
  pub one : IsOneLine first
  pub octets : Appends old new (line_octets first ++ error_octets more)

-- A line was put, and then one that begins with `error: `.
pub record PutsLineAndError (old new : Option (List ℕ)) : Type 0 where
  pub more : List ℕ
  pub one : IsOneLine more
  pub put : PutsLineAnd more old new

-- A line was put to the first of two, and then one that begins with `error: ` to the second, unless that failed.
pub record TellsBoth (out_old out_new : Option (List ℕ)) (err_failed : Bool) (err_old err_new : Option (List ℕ)) : Type 0 where
  pub line : PutsLine out_old out_new
  pub error : err_failed ≡ false → PutsError err_old err_new
