-- The words of a line: numbers, octets, and from whom something is to whom.
use Rattle.std.specs.Prelude.{ℕ, ◌==◌, ◌/◌, ◌%◌, true, List, [], ◌∷◌, ◌++◌, if◌then◌else◌, codes, decimal}
use Rattle.std.specs.Fmt.{digit_glyph}
use Rattle.std.specs.List.{flat_map}
use Rattle.dmr_listing.specs.declared.way.Way.{Way}

-- a word and the number behind it, as in `SAP 4`
abbrev pub named : List ℕ → ℕ → List ℕ
named word number = word ++ (codes " " ++ decimal number)

-- parts with a comma between each two
abbrev pub listed : List (List ℕ) → List ℕ
listed [] = []
listed (only ∷ []) = only
listed (first ∷ second ∷ rest) = first ++ (codes ", " ++ listed (second ∷ rest))

-- a number and what it counts, in the singular for one
abbrev pub count_text : ℕ → List ℕ → List ℕ
count_text number name = decimal number ++ (codes " " ++ (name ++ (if number == 1 then [] else codes "s")))

-- an octet in two hexadecimal digits, in upper case
abbrev pub octet_digits : ℕ → List ℕ
octet_digits octet = digit_glyph true (octet / 16) ∷ digit_glyph true (octet % 16) ∷ []

-- octets in digits, two for each
abbrev pub digits_text : List ℕ → List ℕ
digits_text octets = flat_map octet_digits octets

-- from whom to whom, as in `2 -> 1`, or in `2 -> group 1`
abbrev pub way_text : Way → List ℕ
way_text way =
    decimal way.source ++ (codes " -> " ++ ((if way.to_group then codes "group " else []) ++ decimal way.destination))
