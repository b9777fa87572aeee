-- Which lines say nothing.
use Rattle.std.specs.Prelude.{ℕ, ◌==◌, Bool, true, List, [], ◌∷◌, if◌then◌else◌}
use Rattle.dmr_words.specs.Words.{is_blank}

-- A line says nothing: behind its blanks stands nothing, or a remark, which begins with `#`.
abbrev pub is_quiet : List ℕ → Bool
is_quiet [] = true
is_quiet (octet ∷ octets) = if is_blank octet then is_quiet octets else octet == 35
