-- The shape of a call: the letters that it has, and which are well formed.
use Rattle.std.specs.Prelude.{◌≡◌, ℕ, zero, suc, ◌%◌, ◌<◌, ◌≤◌, Bool, true, false, ◌&&◌, nat_lt, List, [], ◌∷◌, ◌++◌}
use Rattle.std.specs.Prelude.{drop, length, map, replicate}
use Rattle.dmr_script.specs.declared.letters.Letter.{Letter}
use Rattle.dmr_script.specs.declared.letters.Letter.TheVariants as letter
use Rattle.dmr_script.specs.declared.shape.CallShape.{CallShape}
use Rattle.dmr_script.specs.declared.shape.CallStart.{CallStart}
use Rattle.dmr_script.specs.declared.shape.CallStart.TheVariants as start
use Rattle.dmr_script.specs.declared.shape.HeaderKind.{HeaderKind}
use Rattle.dmr_script.specs.declared.shape.HeaderKind.TheVariants as header
use Rattle.dmr_script.specs.declared.shape.Place.{Place}
use Rattle.dmr_script.specs.declared.shape.Place.TheVariants.{A, B, C, D, E, F}

-- 1. Letters.

-- the place behind one; a superframe follows upon another
abbrev pub next_place : Place → Place
next_place A = B
next_place B = C
next_place C = D
next_place D = E
next_place E = F
next_place F = A

-- the letter of a place, there or absent
abbrev pub letter_at : Place → Bool → Letter
letter_at place true = letter.Place place
letter_at place false = letter.Absent

-- the letters of places from one on, each there or absent
abbrev pub place_letters : Place → List Bool → List Letter
place_letters place [] = []
place_letters place (there ∷ more) = letter_at place there ∷ place_letters (next_place place) more

-- the place behind so many from one on
abbrev pub place_past : Place → List Bool → Place
place_past place [] = place
place_past place (there ∷ more) = place_past (next_place place) more

-- the place of which so many stand in front of an A
abbrev pub place_before : ℕ → Place
place_before zero = A
place_before (suc zero) = F
place_before (suc (suc zero)) = E
place_before (suc (suc (suc zero))) = D
place_before (suc (suc (suc (suc zero)))) = C
place_before (suc (suc (suc (suc (suc zero))))) = B
place_before (suc (suc (suc (suc (suc (suc n)))))) = A

abbrev pub header_letter : HeaderKind → Letter
header_letter header.Voice = letter.Header
header_letter header.Privacy = letter.PiHeader

-- the letters in front of the first A
abbrev pub start_letters : CallStart → List Letter
start_letters (start.Headers h) = letter.Header ∷ (map header_letter h.more.items ++ replicate h.silences letter.Absent)
start_letters (start.Late tail) = place_letters (place_before (length tail.items)) tail.items

-- all letters of a call
abbrev pub call_letters : CallShape → List Letter
call_letters s = start_letters s.start ++ (place_letters A s.places.items ++ replicate s.terminators letter.Terminator)

-- 2. Well formed calls.

-- one of the first so many places is there; a terminator behind the last counts as one
abbrev pub there_within : ℕ → Bool → List Bool → Bool
there_within zero ended places = false
there_within (suc n) ended [] = ended
there_within (suc n) ended (true ∷ more) = true
there_within (suc n) ended (false ∷ more) = there_within n ended more

-- No six places in a row are absent, and the last is there: of the five behind an absent one, one is there.
abbrev pub is_unbroken : Bool → List Bool → Bool
is_unbroken ended [] = true
is_unbroken ended (true ∷ more) = is_unbroken ended more
is_unbroken ended (false ∷ more) = there_within 5 ended more && is_unbroken ended more

-- the first place is there, where there is any
abbrev pub begins_there : List Bool → Bool
begins_there [] = true
begins_there (there ∷ more) = there

-- In front of the first A stand at most five silences behind headers, and none where headers are alone. Without headers at most
-- five slots do, and one of the five places behind that A is there.
abbrev pub IsStart : CallStart → List Bool → Type 0
IsStart (start.Headers h) places = (h.silences ≤ 5) × (places ≡ [] → h.silences ≡ 0)
IsStart (start.Late tail) places = (length tail.items ≤ 5) × (there_within 5 false (drop 1 places) ≡ true)

-- The shape of a call is well formed.
pub record IsCallShape (s : CallShape) : Type 0 where
  pub start : IsStart s.start s.places.items
  pub first : begins_there s.places.items ≡ true
  pub unbroken : is_unbroken (nat_lt 0 s.terminators) s.places.items ≡ true
  -- a terminator stands in the place of an A
  pub whole : 0 < s.terminators → length s.places.items % 6 ≡ 0
