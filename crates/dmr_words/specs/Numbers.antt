-- Numbers as words.
use Rattle.std.specs.Prelude.{ℕ, ◌==◌, Bool, not, ◌&&◌, ◌||◌, List, length, slice_index}

-- whether neither a sign stands in front of a word, nor a zero in front of something else
abbrev pub has_plain_front : List ℕ → Bool
has_plain_front word = not (slice_index word 0 == 43) && (not (slice_index word 0 == 48) || length word == 1)
