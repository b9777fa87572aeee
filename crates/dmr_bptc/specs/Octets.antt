-- The written form of 96 bits, as the sum of those of their octets.
use Rattle.std.specs.Prelude.{ℕ, ◌*◌, ◌-◌, Bool, false, List, ◌++◌, replicate, slice_index_or}
use Rattle.dmr_bits.specs.Bits.{bits_of}

-- 96 bits with one octet in its place among twelve, and zeros in all others
abbrev pub octet_alone : ℕ → ℕ → List Bool
octet_alone place octet = replicate (8 * place) false ++ (bits_of 8 octet ++ replicate (88 - 8 * place) false)

-- the 196 bits of four words: 64 in each of the first three, and the last four in one more
abbrev pub spelled : List ℕ → List Bool
spelled words =
    bits_of 64 (slice_index_or words 0 0)
    ++ (bits_of 64 (slice_index_or words 1 0) ++ (bits_of 64 (slice_index_or words 2 0) ++ bits_of 4 (slice_index_or words 3 0)))
