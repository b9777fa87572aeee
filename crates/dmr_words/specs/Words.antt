-- Words of a line.
use Rattle.std.specs.Prelude.{ℕ, ◌==◌, Bool, true, false, not, ◌&&◌, ◌||◌, List, [], ◌∷◌, slice_index}
use Rattle.std.specs.List.{filter, slice_split}

-- a space or a tab, which stand between words
abbrev pub is_blank : ℕ → Bool
is_blank octet = octet == 32 || octet == 9

-- whether a list has an element
abbrev pub has_any : {X : Type 0} → List X → Bool
has_any [] = false
has_any (x ∷ xs) = true

-- the words of a line: its parts between blanks, but for those of no octet
abbrev pub line_words : List ℕ → List (List ℕ)
line_words line = filter has_any (slice_split is_blank line)

-- whether a line is a remark: it begins with `#`
abbrev pub is_remark : List ℕ → Bool
is_remark line = slice_index line 0 == 35

-- whether a line counts: it has a word, and is no remark
abbrev pub is_worded : List ℕ → Bool
is_worded line = not (is_remark line) && has_any (line_words line)
