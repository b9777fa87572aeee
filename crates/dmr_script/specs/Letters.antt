-- The letters of a shape, and the words that say them.
use Rattle.std.specs.Prelude.{◌≡◌, ℕ, zero, suc, ◌⊎◌, List, [], ◌∷◌, ◌++◌, map, decimal}
use Rattle.dmr_script.specs.declared.letters.Letter.{Letter}
use Rattle.dmr_script.specs.declared.letters.Letter.TheVariants as letter
use Rattle.dmr_script.specs.declared.shape.Place.TheVariants.{A, B, C, D, E, F}

-- how a letter is written
abbrev pub octet_of : Letter → ℕ
octet_of letter.Header = 72
octet_of letter.PiHeader = 80
octet_of (letter.Place A) = 65
octet_of (letter.Place B) = 66
octet_of (letter.Place C) = 67
octet_of (letter.Place D) = 68
octet_of (letter.Place E) = 69
octet_of (letter.Place F) = 70
octet_of letter.Absent = 46
octet_of letter.Terminator = 84
octet_of letter.Csbk = 99
octet_of letter.Block = 98

-- how letters are written in a row
abbrev pub letters_text : List Letter → List ℕ
letters_text letters = map octet_of letters

-- octets, so many times
abbrev pub times_over : ℕ → List ℕ → List ℕ
times_over zero group = []
times_over (suc n) group = times_over n group ++ group

-- A word is a group of letters, or a number, a star, and a group that counts so many times.
abbrev pub IsGroup : List ℕ → ℕ → List ℕ → Type 0
IsGroup word n group = ((n ≡ 1) × (word ≡ group)) ⊎ (word ≡ decimal n ++ 42 ∷ group)

-- A word says further letters behind others.
pub record SaysLetters (word : List ℕ) (old new : List Letter) : Type 0 where
  pub count : ℕ
  pub group : List ℕ
  pub says : IsGroup word count group
  pub text : letters_text new ≡ letters_text old ++ times_over count group
