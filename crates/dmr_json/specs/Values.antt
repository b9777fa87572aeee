-- How values, keys and objects of JSON are written.
use Rattle.std.specs.Prelude.{ℕ, Bool, true, false, if◌then◌else◌, List, [], ◌∷◌, ◌++◌, codes, decimal}
use Rattle.dmr_listing.specs.Texts.{digits_text}

-- a text that has nothing to escape, in quotes
abbrev pub quoted : List ℕ → List ℕ
quoted text = codes "\"" ++ (text ++ codes "\"")

-- octets, in quoted digits
abbrev pub hex : List ℕ → List ℕ
hex octets = quoted (digits_text octets)

-- 1 for what is set, and else 0
abbrev pub bit : Bool → ℕ
bit true = 1
bit false = 0

-- true or false
abbrev pub truth : Bool → List ℕ
truth b = if b then codes "true" else codes "false"

-- a key in quotes, a colon, and its value
abbrev pub keyed : List ℕ → List ℕ → List ℕ
keyed key value = quoted key ++ (codes ":" ++ value)

-- a key whose value is a number, in decimal digits
abbrev pub keyed_number : List ℕ → ℕ → List ℕ
keyed_number key number = keyed key (decimal number)

-- keys, with a comma between each two
abbrev pub keys : List (List ℕ) → List ℕ
keys [] = []
keys (only ∷ []) = only
keys (first ∷ second ∷ rest) = first ++ (codes "," ++ keys (second ∷ rest))

-- a key behind others
abbrev pub behind : List ℕ → List ℕ
behind key = codes "," ++ key

-- an object with these keys
abbrev pub object : List (List ℕ) → List ℕ
object list = codes "{" ++ (keys list ++ codes "}")
