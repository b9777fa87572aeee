-- The checksum of IPv4 and UDP (RFC 791, RFC 768): sums of 16-bit words in one's complement
-- (RFC 1071).
use Rattle.std.specs.Prelude.{ℕ, ◌+◌, ◌-◌, ◌*◌, ◌/◌, ◌%◌, ◌^◌, List, [], ◌∷◌, fold}

-- The words that octets spell, the high octet first. An odd octet at the end is the high one of a
-- word that ends in 0.
abbrev pub words : List ℕ → List ℕ
words [] = []
words (high ∷ []) = (256 * high) ∷ []
words (high ∷ low ∷ rest) = (256 * high + low) ∷ words rest

-- The sum of two words: what is carried out of the highest bit is added at the lowest.
unfoldable pub plus : ℕ → ℕ → ℕ
plus a b = (a + b) % 2 ^ 16 + (a + b) / 2 ^ 16

-- The sum of the words of octets.
abbrev pub ones_complement_sum : List ℕ → ℕ
ones_complement_sum octets = fold plus 0 (words octets)

-- The complement of that sum. Where it is added, the words add up to FFFF.
abbrev pub checksum : List ℕ → ℕ
checksum octets = 0xffff - ones_complement_sum octets
